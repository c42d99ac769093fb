pub mod Setup
pub mod Draws
pub mod Spent
pub mod Own
