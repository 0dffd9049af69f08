pub mod VisitLaws
pub mod SweepLaws
pub mod AnswerLaws
