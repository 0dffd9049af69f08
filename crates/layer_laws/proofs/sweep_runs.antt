pub mod Counts
pub mod Goes
pub mod Swept
pub mod Deadline
pub mod Passing
