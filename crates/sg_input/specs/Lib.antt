pub mod Input
pub mod Lines
pub mod Memory
pub mod Model
