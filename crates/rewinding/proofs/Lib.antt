pub mod Rewinds
pub mod Search
pub mod Steps
pub mod Walks
