pub mod Below
pub mod Folding
pub mod Scan
pub mod Causes
pub mod Words
