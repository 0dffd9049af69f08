pub mod Run
pub mod Deadline
