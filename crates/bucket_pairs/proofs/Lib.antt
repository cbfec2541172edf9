pub mod Tied
pub mod Read
