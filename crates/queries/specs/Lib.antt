pub mod Registered
