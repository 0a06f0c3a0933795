pub mod Extensions
pub mod steps
