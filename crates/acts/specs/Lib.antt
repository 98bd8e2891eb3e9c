-- Acts.
pub mod Acts
