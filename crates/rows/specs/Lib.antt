pub mod Rows
pub mod steps
