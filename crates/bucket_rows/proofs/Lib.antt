-- The laws of the crate.
pub mod Laws
pub mod Found
pub mod Free
pub mod Exact
pub mod Skip
pub mod Examples
