pub mod Asked
pub mod Settled
pub mod Carried
pub mod Deeds
pub mod Removal
pub mod LastError
