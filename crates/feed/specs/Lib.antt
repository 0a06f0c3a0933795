pub mod Feed
pub mod Laws
pub mod steps
