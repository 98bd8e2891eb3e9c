-- Laws of the exported functions.
pub mod Covers
