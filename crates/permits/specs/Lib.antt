-- The permitting ranges.
pub mod Permits
