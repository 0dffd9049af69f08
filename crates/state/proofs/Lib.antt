pub mod Prelude
pub mod Entry
