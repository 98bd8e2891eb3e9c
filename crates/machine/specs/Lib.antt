-- A step and a run.
pub mod Step
pub mod Run
pub mod Inner
