-- The operations.
pub mod Forms
pub mod Operations
