pub mod Words
pub mod NamedAnswers
pub mod Answered
