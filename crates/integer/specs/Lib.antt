-- The integer operations.
pub mod Integer
