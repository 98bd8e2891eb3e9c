-- Loads and stores.
pub mod Reach
pub mod Load
pub mod Store
