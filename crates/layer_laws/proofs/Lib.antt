pub mod documented
pub mod after_refusal
pub mod sweep_runs
pub mod joined
pub mod never
pub mod listed
