-- The laws of the crate.
pub mod Shape
pub mod Levels
