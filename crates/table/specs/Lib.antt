-- The definitions of the crate.
pub mod Table
pub mod Layout
pub mod Content
pub mod AtOnce
pub mod Sound
pub mod Test
pub mod Calls
pub mod History
pub mod Causes
pub mod Answers
