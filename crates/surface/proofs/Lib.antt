pub mod NumberLaws
mod FieldLaws
pub mod CallLaws
pub mod ReadLaws
pub mod Exported
