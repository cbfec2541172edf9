-- The definitions that the contracts of the crate cite.
pub mod Write
pub mod Steps
pub mod Causes
