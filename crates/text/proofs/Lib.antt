pub mod Parts
pub mod Places
pub mod Digits
pub mod Cases
