pub mod NewJoins
pub mod Asked
pub mod Adding
pub mod Reading
