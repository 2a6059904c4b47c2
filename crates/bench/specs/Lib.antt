pub mod Start
pub mod Serve
