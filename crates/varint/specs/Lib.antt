pub mod Integers
pub mod Marked
pub mod Written
pub mod Laws
pub mod steps
