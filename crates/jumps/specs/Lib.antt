-- Jumps.
pub mod Jumps
