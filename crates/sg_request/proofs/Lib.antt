pub mod WordLaws
pub mod Sound
pub mod Complete
