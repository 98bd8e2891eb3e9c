-- Laws that the proofs of several functions cite.
pub mod Reaches
pub mod Loads
pub mod Stores
