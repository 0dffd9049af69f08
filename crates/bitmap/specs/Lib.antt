pub mod Lowest
pub mod Steps
pub mod Bits
pub mod Rows
