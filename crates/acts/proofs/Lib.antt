-- Laws of acts.
pub mod Steadiness
pub mod Heads
