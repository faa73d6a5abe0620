pub mod Covers
pub mod Lists
pub mod Tests
pub mod Holds
