pub mod Part
pub mod Round
pub mod Equal
