pub mod Faults
pub mod Audited
pub mod Replayed
pub mod Driven
pub mod Ends
