pub mod Identifier
pub mod Kinds
pub mod Place
pub mod Causes
pub mod Scan
