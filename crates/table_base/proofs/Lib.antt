-- The laws of the crate.
pub mod Moves
pub mod Shift
