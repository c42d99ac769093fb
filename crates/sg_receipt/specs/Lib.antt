pub mod Receipts
pub mod Refusals
pub mod Faults
pub mod Answers
