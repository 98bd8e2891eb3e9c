-- Integer operations on the registers, and moves.
pub mod Moves
