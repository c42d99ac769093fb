pub mod Model
pub mod Invariant
pub mod Making
pub mod Means
