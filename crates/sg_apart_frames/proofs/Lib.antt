pub mod Sendings
pub mod Beginnings
pub mod Showing
pub mod Delivery
pub mod Honest
