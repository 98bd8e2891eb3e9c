-- The pool walk.
pub mod Start
pub mod Text
pub mod Written
pub mod Walk
pub mod Blocks
