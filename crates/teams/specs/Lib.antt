pub mod Teams
pub mod Laws
pub mod steps
