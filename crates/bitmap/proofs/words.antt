pub mod BitLaws
pub mod RowLaws
pub mod Tests
pub mod WordLaws
