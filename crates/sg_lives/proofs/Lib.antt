pub mod NodeJoins
pub mod Lives
pub mod Plays
pub mod Serving
