pub mod KeptRuns
pub mod Faults
pub mod Around
pub mod Representation
