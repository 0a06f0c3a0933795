pub mod Leaves
pub mod Puts
pub mod Room
pub mod Whole
