pub mod Growing
pub mod Keyed
pub mod Lists
pub mod Next
pub mod Reached
pub mod Tables
pub mod Unions
