-- The definitions that the contracts of the crate cite.
pub mod Record
pub mod Plane
pub mod Lookup
pub mod Fits
pub mod Offset
pub mod Causes
pub mod Right
pub mod Steps
