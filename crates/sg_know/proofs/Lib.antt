pub mod First
pub mod Accepted
pub mod Bounds
pub mod Knowing
pub mod Outgoing
pub mod Reaching
pub mod Table
