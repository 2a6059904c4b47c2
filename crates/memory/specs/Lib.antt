pub mod Found
pub mod Sought
pub mod Fine
pub mod Put
pub mod Keys
