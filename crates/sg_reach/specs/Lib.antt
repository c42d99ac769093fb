pub mod WalkEnd
pub mod Model
pub mod Invariant
pub mod Reaches
