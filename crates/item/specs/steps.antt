pub mod Taken
pub mod Reading
pub mod Beside
