-- The definitions that the contracts of the crate cite.
pub mod Base
pub mod Record
pub mod Patch
pub mod Wrong
pub mod Calls
pub mod Fits
pub mod Offset
pub mod Causes
pub mod Cursor
