pub mod Reads
pub mod ReadFrames
