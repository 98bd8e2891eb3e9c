-- System instructions.
pub mod CoreRegisters
pub mod Instructions
