pub mod Determined
pub mod Causes
