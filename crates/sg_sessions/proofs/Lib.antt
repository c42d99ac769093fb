pub mod Players
pub mod Setups
mod Spent
pub mod Own
pub mod OwnRuns
pub mod OwnSetup
