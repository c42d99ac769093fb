pub mod Memory
pub mod Waiting
