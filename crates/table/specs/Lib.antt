pub mod Questions
pub mod Spans
pub mod FirstRows
pub mod Search
