-- Operations on the bits of words.
pub mod Logical
pub mod Leading
pub mod Shift
