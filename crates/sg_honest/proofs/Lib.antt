pub mod Plays
pub mod Served
