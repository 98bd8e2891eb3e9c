-- Laws that the proofs of several functions cite.
pub mod Flags
pub mod Links
pub mod Counters
pub mod RangeSets
