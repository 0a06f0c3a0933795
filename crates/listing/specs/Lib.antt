pub mod Listing
pub mod steps
