-- The laws of the crate.
pub mod Steps
pub mod Fill
