-- The laws of the crate.
pub mod Small
pub mod Costs
pub mod Lists
pub mod Put
pub mod Whole
