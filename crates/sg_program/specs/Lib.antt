pub mod Model
pub mod Invariant
pub mod Together
