pub mod TeamLine
pub mod FromRows
pub mod Onward
pub mod Puts
