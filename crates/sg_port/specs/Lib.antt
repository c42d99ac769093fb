pub mod Brought
pub mod Inbox
pub mod Silence
