-- The values of the definitions are words.
pub mod Words
pub mod Fields
pub mod Results
