-- Laws of the core record.
pub mod Readings
pub mod Kept
