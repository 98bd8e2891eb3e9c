-- Laws that the proofs of several functions cite.
pub mod Truth
pub mod Integers
pub mod Exact
pub mod Values
pub mod Counts
pub mod Masks
pub mod Results
pub mod Answers
