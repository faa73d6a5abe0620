pub mod Pieces
pub mod Printed
pub mod Bounds
pub mod Asked
