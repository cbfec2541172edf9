-- The laws of the crate.
pub mod Touched
pub mod Calls
