-- Lent memory and its words.
pub mod Word
pub mod Width
pub mod Joins
pub mod Address
pub mod Memory
