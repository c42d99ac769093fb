pub mod Blind
pub mod FaultText
pub mod Least
pub mod Shaped
