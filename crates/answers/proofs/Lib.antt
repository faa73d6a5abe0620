pub mod LowestClosed
pub mod Named
pub mod Given
pub mod Judged
