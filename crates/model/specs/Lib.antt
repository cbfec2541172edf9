-- The definitions of the crate, in document 01's order.
pub mod Levels
pub mod Model
pub mod Request
pub mod Machine
pub mod History
