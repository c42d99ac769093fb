mod NameText
pub mod Pieces
pub mod SameName
mod Seeded
pub mod SetLaws
pub mod WordLaws
