pub mod Steps
pub mod Rowwise
pub mod Blockwise
pub mod Phases
