pub mod Slots
pub mod Faults
pub mod Receipts
pub mod Joining
pub mod Answers
pub mod Taking
pub mod Invariant
pub mod Laws
