pub mod Reeling
pub mod Laws
pub mod steps
