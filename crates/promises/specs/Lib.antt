pub mod Boundary
pub mod Promises
pub mod AfterCalls
pub mod Cases
