pub mod Puts
pub mod Blocks
pub mod Frame
