-- The blocks end.
pub mod Ends
