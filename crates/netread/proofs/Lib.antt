pub mod Steps
pub mod Marks
pub mod Records
pub mod Loops
pub mod File
