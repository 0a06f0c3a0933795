pub mod Slim
pub mod Rests
pub mod Others
pub mod Inputs
