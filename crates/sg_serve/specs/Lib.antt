pub mod Posted
pub mod Said
pub mod Serving
pub mod Lines
pub mod Served
pub mod Faults
pub mod Representation
pub mod Laws
