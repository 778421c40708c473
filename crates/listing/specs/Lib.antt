pub mod Number
pub mod Listing
