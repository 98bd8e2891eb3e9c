-- The core record.
pub mod CoreRecord
