-- Laws of spans.
pub mod Holds
pub mod Spans
