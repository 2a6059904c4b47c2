pub mod Before
pub mod Feed
pub mod Whole
