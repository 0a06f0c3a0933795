pub mod Number
pub mod Order
pub mod Rows
pub mod Text
