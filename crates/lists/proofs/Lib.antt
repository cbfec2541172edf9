-- The laws of the crate.
pub mod Tests
pub mod Parts
pub mod Loops
pub mod Keep
pub mod Entries
pub mod Sorts
pub mod Edits
pub mod Totals
pub mod Every
