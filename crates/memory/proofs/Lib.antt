-- Laws of words in memory.
pub mod Words
pub mod Joined
pub mod Same
