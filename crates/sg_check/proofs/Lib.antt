pub mod Blinded
pub mod Shapes
