pub mod Obeyed
pub mod Done
pub mod Rungs
pub mod Subject
