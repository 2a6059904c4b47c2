pub mod Types
pub mod Values
pub mod Lines
pub mod EnabledText
pub mod Reached
pub mod Fits
