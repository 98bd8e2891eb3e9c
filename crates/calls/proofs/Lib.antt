-- Laws that the proofs of several functions cite.
pub mod Switches
pub mod Lowers
pub mod Told
