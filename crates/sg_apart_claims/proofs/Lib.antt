pub mod Pasts
pub mod Roles
pub mod Turns
pub mod Walks
pub mod Claims
