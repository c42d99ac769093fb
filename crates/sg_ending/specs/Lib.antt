pub mod Ending
pub mod Output
pub mod Files
pub mod Graphs
pub mod Says
pub mod Laws
pub mod Model
