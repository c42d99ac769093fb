pub mod FaultText
pub mod Keys
pub mod Limits
pub mod Search
pub mod Steps
