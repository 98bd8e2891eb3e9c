-- Laws of the rules.
pub mod Windows
pub mod Single
pub mod Verdicts
