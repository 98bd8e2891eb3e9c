-- The proof of demand 3.
pub mod Areas
pub mod Frames
pub mod Invariant
pub mod Loads
pub mod Saves
pub mod Steps
pub mod Series
pub mod Starts
