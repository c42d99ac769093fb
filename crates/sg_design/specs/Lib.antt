pub mod Accepted
pub mod Ends
pub mod Claimed
pub mod Laws
