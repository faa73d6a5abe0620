pub mod BackwardSteps
pub mod Stores
pub mod SetLaws
pub mod Loaded
