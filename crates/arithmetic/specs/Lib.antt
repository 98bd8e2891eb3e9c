-- Integer arithmetic.
pub mod Arithmetic
