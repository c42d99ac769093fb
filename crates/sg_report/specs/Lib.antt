pub mod Reported
pub mod Outcome
pub mod Reasons
pub mod Lines
pub mod Report
pub mod Model
