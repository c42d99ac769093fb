pub mod Files
pub mod OneEnding
pub mod SomeEnding
