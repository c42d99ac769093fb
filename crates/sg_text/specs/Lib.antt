pub mod Values
pub mod Events
pub mod Walks
pub mod Sessions
