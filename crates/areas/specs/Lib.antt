-- Context save areas.
pub mod Link
pub mod Place
pub mod Area
