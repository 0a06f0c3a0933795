pub mod Cases
pub mod Signs
