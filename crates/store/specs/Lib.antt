pub mod Place
pub mod Load
pub mod Mark
pub mod Examples
