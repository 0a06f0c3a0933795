pub mod Calls
pub mod Others
