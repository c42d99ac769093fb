pub mod Command
pub mod Model
pub mod Parsed
