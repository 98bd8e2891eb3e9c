-- The host library.
pub mod Host
pub mod Calls
