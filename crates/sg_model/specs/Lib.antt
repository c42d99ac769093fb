pub mod Bytes
pub mod Claims
pub mod Last
pub mod Limits
pub mod Lists
pub mod Names
pub mod Shape
pub mod Values
