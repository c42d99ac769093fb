pub mod Receipts
pub mod LastSteps
pub mod Delivery
pub mod GoesOn
