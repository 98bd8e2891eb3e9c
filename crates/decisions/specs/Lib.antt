-- A step of an accepted machine.
pub mod Valid
pub mod Beginning
pub mod Heads
pub mod Decision
