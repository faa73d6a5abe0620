pub mod Ascii
pub mod Numbers
pub mod Fields
pub mod Words
pub mod Cases
