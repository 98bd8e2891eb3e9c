-- The lists of areas.
pub mod Walk
pub mod Lists
