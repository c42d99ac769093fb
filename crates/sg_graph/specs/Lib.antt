pub mod Adding
pub mod Edges
pub mod Parts
pub mod Model
pub mod NamesOfGraph
pub mod Invariant
