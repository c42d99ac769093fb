pub mod Text
pub mod Words
pub mod Pair
pub mod Keys
pub mod Edges
pub mod Format
pub mod Steps
