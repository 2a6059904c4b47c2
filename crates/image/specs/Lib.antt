pub mod Codes
pub mod Views
pub mod Accepted
