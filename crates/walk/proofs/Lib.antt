-- Laws of the pool walk.
pub mod Texts
pub mod Starts
pub mod Single
pub mod Walks
pub mod Wholes
pub mod Promises
