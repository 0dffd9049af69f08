pub mod Session
pub mod Recorded
pub mod StateHash
pub mod Replaying
