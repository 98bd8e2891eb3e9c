-- Numbers as text.
pub mod Hex
