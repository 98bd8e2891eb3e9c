-- The exported checks.
pub mod Export
