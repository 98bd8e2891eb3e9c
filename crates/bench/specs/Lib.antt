-- The proved table of bench values, and inputs that are accepted.
pub mod Starred
pub mod Accepted
