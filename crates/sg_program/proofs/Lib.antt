pub mod Alike
pub mod Indices
pub mod SameKey
pub mod Tables
