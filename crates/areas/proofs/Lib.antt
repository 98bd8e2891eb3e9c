-- Laws of areas.
pub mod Places
pub mod Parts
pub mod Accesses
