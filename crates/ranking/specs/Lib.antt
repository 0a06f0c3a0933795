pub mod Ranking
pub mod Laws
pub mod steps
