-- The instructions on contexts.
pub mod Saves
pub mod Returns
pub mod Instructions
