pub mod Going
pub mod Lent
pub mod steps
