pub mod Views
pub mod Steps
pub mod Taking
pub mod OneLine
pub mod TwoNames
