pub mod Answers
pub mod Known
