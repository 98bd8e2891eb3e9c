-- Laws that the proofs of several functions cite.
pub mod Rooms
pub mod Saves
pub mod Returns
