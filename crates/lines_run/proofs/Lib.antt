pub mod Lines
pub mod Agree
pub mod Session
pub mod Asked
pub mod Running
