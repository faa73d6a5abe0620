pub mod Copies
pub mod Ready
