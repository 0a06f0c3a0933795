pub mod Calls
pub mod Along
pub mod Laws
pub mod Never
