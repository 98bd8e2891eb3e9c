-- Instructions.
pub mod Decision
pub mod Execute
pub mod Executed
