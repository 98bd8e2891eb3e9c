-- Laws of the lists.
pub mod Walks
pub mod Fuel
pub mod Counts
pub mod Lists
