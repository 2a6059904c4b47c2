pub mod CommandLaws
pub mod Laws
pub mod SameNumber
pub mod Says
pub mod Words
