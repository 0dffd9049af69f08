pub mod Left
pub mod Mark
pub mod Free
pub mod Standing
