pub mod Beside
pub mod Calls
