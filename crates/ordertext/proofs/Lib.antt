pub mod Cases
pub mod Numerals
pub mod Turns
pub mod Given
pub mod Names
