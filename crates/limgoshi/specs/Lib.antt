-- The definitions of the crate.
pub mod Entry
