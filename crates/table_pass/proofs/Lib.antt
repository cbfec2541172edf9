-- The laws of the crate.
pub mod Arrivals
pub mod Passing
