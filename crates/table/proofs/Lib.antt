-- The laws that answers of several functions cite.
pub mod TurnLaws
pub mod TableLaws
pub mod SearchLaws
