pub mod Sizes
pub mod Signs
