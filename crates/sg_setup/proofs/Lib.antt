pub mod Beside
pub mod InOrder
pub mod OneSetup
pub mod SomeSetup
