-- Rules 1 to 6 and 13.
pub mod Verdict
pub mod Checks
pub mod Rules
