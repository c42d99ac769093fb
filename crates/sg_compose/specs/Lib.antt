pub mod Early
pub mod Expansion
pub mod FaultText
pub mod Laws
pub mod Owed
pub mod Walks
