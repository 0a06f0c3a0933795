pub mod Reel
pub mod Laws
