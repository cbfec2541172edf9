pub mod Product
pub mod Inverse
pub mod FnvLaws
pub mod FnvOne
