-- The laws of the crate.
pub mod Steps
pub mod Laws
pub mod Answers
pub mod Marked
