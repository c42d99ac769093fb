pub mod Playing
pub mod Keeping
pub mod Meanwhile
pub mod Serving
pub mod OneLedger
pub mod OneOpening
mod Slots
pub mod FailedLinks
