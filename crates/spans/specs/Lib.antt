-- Records that are fetched one after the other.
pub mod Spans
