-- The proofs of the table and of the accepted inputs.
pub mod Values
pub mod Inputs
