pub mod Reply
pub mod Answer
pub mod Promises
pub mod Cases
