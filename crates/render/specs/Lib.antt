pub mod Listing
pub mod Text
pub mod Cases
