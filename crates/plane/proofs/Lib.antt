-- The laws of the crate.
pub mod Scan
pub mod Read
pub mod Round
pub mod Exact
pub mod Octets
pub mod Offset
pub mod Causes
pub mod Desk
