pub mod Dropped
pub mod OverRestarts
