-- Laws of the decoding.
pub mod Forms
pub mod Table
pub mod Accesses
pub mod Compares
