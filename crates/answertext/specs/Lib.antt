pub mod Prints
pub mod Answers
