pub mod Hash
pub mod Hex
pub mod Signed
pub mod Counting
pub mod Lines
