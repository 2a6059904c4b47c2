-- What the contracts of this crate cite beyond the definitions of document 01.
pub mod Types
pub mod Poses
pub mod Numbers
