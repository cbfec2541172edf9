pub mod Entry
pub mod Statements
