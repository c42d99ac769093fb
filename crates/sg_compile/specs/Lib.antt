pub mod All
pub mod Compiled
pub mod FaultText
pub mod Laws
pub mod Loading
pub mod Refused
pub mod Text
