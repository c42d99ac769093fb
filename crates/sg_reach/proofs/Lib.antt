pub mod Cases
pub mod Leads
pub mod Pair
pub mod Reached
pub mod Searching
pub mod There
