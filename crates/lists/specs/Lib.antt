-- The definitions of the crate.
pub mod Lists
pub mod Entries
pub mod Totals
