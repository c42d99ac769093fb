pub mod Inbox
