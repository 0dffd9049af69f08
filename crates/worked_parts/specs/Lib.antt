pub mod Joins
pub mod Lists
pub mod Never
pub mod Numbers
pub mod Picture
pub mod Tally
