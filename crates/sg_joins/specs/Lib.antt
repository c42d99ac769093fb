pub mod Joins
pub mod Images
pub mod Asked
pub mod Laws
