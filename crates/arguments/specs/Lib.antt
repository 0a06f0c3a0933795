pub mod Arguments
pub mod steps
