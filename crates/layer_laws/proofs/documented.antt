pub mod Tools
pub mod Reserve
pub mod Manage
pub mod Named
pub mod Area
pub mod Options
pub mod Purge
pub mod Delay
