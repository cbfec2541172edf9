-- The laws of the crate.
pub mod New
pub mod Call
