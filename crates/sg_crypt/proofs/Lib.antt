pub mod Joined
pub mod NameOrder
pub mod Slots
