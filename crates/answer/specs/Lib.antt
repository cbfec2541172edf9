pub mod Numbers
pub mod Causes
