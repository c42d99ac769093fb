pub mod Numbers
pub mod SameSid
pub mod Firsts
pub mod Naming
pub mod Numbered
pub mod Tables
pub mod Steps
