-- Comparisons.
pub mod Compare
