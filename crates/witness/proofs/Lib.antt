-- The series computed, and the theorem applied to it.
pub mod Example
pub mod Quiet
pub mod Applied
