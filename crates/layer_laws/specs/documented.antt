pub mod Areas
pub mod Options
