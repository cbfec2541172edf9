pub mod Run
pub mod Buffer
