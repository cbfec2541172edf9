-- The laws of the crate.
pub mod Hold
pub mod Settling
pub mod Padded
pub mod Insert
pub mod Leave
pub mod Sound
