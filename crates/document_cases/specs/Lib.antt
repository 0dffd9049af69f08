pub mod Worked
pub mod Refused
pub mod Example
pub mod SwitchOver
pub mod Joined
pub mod Never
pub mod Listed
pub mod Ring
