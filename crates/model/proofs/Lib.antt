-- The laws of the crate; Statements restates those that others cite.
pub mod Levels
pub mod Steps
pub mod Valid
pub mod Arrivals
pub mod Requests
pub mod Calls
pub mod Orders
pub mod Example
pub mod Statements
pub mod Others
