pub mod Linked
pub mod UnderWay
pub mod steps
