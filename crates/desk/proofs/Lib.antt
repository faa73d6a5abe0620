pub mod Cases
pub mod Placed
pub mod Sounds
pub mod Replies
pub mod Promises
pub mod Comes
pub mod Chain
pub mod Lengths
