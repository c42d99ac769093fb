pub mod Explained
pub mod Concealed
pub mod Pairs
pub mod Indices
pub mod Steps
pub mod Whole
