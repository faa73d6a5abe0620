pub mod Turns
pub mod ByWeight
pub mod HarmWords
