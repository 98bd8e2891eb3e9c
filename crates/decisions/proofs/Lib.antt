-- Laws of a step.
pub mod Setters
pub mod Values
pub mod Levels
pub mod Sound
pub mod Families
pub mod Systems
pub mod Thens
pub mod Acts
pub mod Decides
pub mod Memories
pub mod Savings
pub mod Returnings
pub mod Steps
pub mod Owned
pub mod Known
pub mod Beginnings
pub mod Readings
