pub mod Chosen
pub mod Reaching
pub mod Laws
