-- The fields of the core registers.
pub mod Field
pub mod Psw
pub mod Depth
pub mod Icr
pub mod Link
pub mod Pcxi
pub mod Syscon
pub mod Request
