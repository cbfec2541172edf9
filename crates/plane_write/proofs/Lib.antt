-- The laws of the crate.
pub mod Shown
pub mod Put
pub mod Through
pub mod Accepted
pub mod Causes
pub mod Statements
