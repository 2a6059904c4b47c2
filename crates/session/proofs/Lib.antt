pub mod Buffer
pub mod Whole
pub mod Cutting
pub mod Rest
pub mod Answering
pub mod Running
pub mod Turning
