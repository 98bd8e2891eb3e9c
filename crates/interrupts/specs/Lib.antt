-- The interrupt sources.
pub mod Sources
