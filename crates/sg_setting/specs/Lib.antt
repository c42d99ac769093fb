pub mod Replay
pub mod Pairs
pub mod Setting
pub mod SettingHeld
