-- Memory protection.
pub mod Range
pub mod Access
