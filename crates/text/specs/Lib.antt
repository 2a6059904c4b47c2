pub mod Claims
pub mod Cursor
pub mod Names
pub mod Numbers
pub mod Pairs
pub mod Readings
pub mod Values
