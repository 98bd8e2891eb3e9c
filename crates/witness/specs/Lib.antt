-- An accepted start, and a series from it.
pub mod Bytes
pub mod Start
pub mod Series
pub mod Lists
pub mod Witness
