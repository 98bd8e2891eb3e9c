-- The answers of the host library.
pub mod Answers
