pub mod Text
pub mod Cover
pub mod Read
pub mod Write
pub mod Cases
