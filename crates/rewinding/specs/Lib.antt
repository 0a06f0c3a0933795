pub mod Rewinding
pub mod Walk
pub mod steps
