pub mod Windows
pub mod Leads
pub mod Records
pub mod Laws
