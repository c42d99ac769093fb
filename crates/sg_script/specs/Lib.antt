pub mod FaultText
pub mod Format
pub mod Script
