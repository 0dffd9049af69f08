pub mod Wrong
pub mod Joins
pub mod Never
pub mod Lists
