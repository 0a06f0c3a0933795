pub mod Cases
pub mod Teams
