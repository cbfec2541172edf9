pub mod Desk
pub mod Buffer
