pub mod Numbers
pub mod Fields
pub mod Told
pub mod Replies
pub mod Lists
pub mod Joins
pub mod Exported
