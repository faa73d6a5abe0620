pub mod RoundTrip
pub mod OldFile
pub mod Kept
