pub mod Feed
pub mod Blocks
pub mod Whole
