-- The exported integer operations.
pub mod Export
