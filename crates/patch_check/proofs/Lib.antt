-- The laws of the crate.
pub mod Remove
pub mod Enter
pub mod Checked
