pub mod FaultText
pub mod Grammar
pub mod Owed
pub mod Reading
pub mod Written
