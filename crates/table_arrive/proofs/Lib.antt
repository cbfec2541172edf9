-- The laws of the crate.
pub mod Tables
pub mod Settled
