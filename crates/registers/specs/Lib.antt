-- The registers.
pub mod Core
pub mod Registers
