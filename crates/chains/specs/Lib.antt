pub mod Flat
pub mod Searches
pub mod Frames
pub mod Walk
pub mod Sums
