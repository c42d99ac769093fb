pub mod Agrees
pub mod Among
pub mod GivesClaims
pub mod GivesLabels
pub mod Lexed
pub mod Suggested
pub mod TookClaims
pub mod TookLabels
