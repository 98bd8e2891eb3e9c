-- Contexts.
pub mod Context
pub mod Save
pub mod Restore
