pub mod LowestLaws
pub mod SearchLaws
pub mod WalkLaws
