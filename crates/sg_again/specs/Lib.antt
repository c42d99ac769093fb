pub mod LastFrames
pub mod Laws
