-- Laws that the proofs of several functions cite.
pub mod Runs
pub mod Counts
pub mod BitByBit
