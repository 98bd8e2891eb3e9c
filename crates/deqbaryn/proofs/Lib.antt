-- Laws that the proofs of several functions cite.
pub mod Hosts
pub mod Series
