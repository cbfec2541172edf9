-- The laws of the crate.
pub mod Several
pub mod Counting
