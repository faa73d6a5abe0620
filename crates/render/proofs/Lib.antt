pub mod Pieces
pub mod Shown
pub mod Lengths
pub mod Cases
