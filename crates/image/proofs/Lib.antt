-- Laws of the image's rules and of the fetch.
pub mod Tests
pub mod Tables
pub mod Images
pub mod Indices
pub mod Addresses
pub mod Walks
pub mod Long
pub mod Scanning
pub mod Marking
pub mod Rests
pub mod Fetches
