-- Laws of the run.
pub mod Turns
pub mod Walks
pub mod Guides
pub mod Loops
pub mod Singles
pub mod Unmade
pub mod Stays
