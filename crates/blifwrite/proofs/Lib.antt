pub mod Pieces
pub mod Shown
