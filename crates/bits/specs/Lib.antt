pub mod Bounds
pub mod Range
pub mod Bit
pub mod Cut
pub mod Lists
