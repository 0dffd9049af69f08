pub mod Differences
pub mod OptionLaws
