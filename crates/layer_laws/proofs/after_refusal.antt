pub mod Answers
pub mod Left
pub mod Restored
pub mod Forms
pub mod Mark
pub mod Free
