pub mod FaultText
pub mod Parts
pub mod Reads
pub mod States
pub mod Model
pub mod Invariant
