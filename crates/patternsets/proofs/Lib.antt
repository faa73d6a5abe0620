pub mod BufferSteps
pub mod Words
