-- The image.
pub mod Lengths
pub mod Table
pub mod Records
pub mod Rules
pub mod Rest
pub mod Fetch
pub mod Marks
