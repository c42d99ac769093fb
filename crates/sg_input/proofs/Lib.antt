pub mod Buffer
pub mod Left
pub mod Runs
