pub mod Laws
pub mod Beside
