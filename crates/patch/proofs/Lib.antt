-- The laws of the crate.
pub mod Base
pub mod Made
pub mod Applied
pub mod Round
pub mod Exact
pub mod Statements
pub mod Calls
pub mod Readings
pub mod Longest
pub mod Steps
pub mod Offset
pub mod Causes
pub mod Cursor
