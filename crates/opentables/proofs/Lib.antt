pub mod ClosedWords
pub mod Opened
