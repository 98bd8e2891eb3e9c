-- Entries.
pub mod Entry
