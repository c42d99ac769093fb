pub mod Driven
pub mod Args
mod AfterDashes
