-- Demand 3: the lists over any series of calls.
pub mod Abstract
pub mod Calls
pub mod Conditions
pub mod Claim
