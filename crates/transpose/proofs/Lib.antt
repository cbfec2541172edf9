-- The laws of the crate.
pub mod Transposed
pub mod Below
pub mod Shuffling
