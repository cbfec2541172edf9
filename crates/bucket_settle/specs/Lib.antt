-- The definitions that the contracts of the crate cite.
pub mod Settle
pub mod Outgoing
pub mod Steps
