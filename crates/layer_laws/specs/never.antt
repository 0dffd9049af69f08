pub mod Delay
