pub mod Whole
pub mod Once
pub mod Honest
pub mod Schedules
pub mod Lives
