-- Words of 32 bits.
pub mod Bits
pub mod Value
pub mod Result
pub mod Exactly
