pub mod EntryLaws
pub mod OpenLaws
pub mod MemoryLaws
