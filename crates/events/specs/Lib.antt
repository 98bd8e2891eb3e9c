-- Events, traps and stops.
pub mod Traps
pub mod Events
