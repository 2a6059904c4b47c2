pub mod Placing
pub mod Marks
pub mod Ends
pub mod Examples
