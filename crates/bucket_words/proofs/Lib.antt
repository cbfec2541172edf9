-- The laws of the crate.
pub mod Words
pub mod Parts
pub mod OnWords
