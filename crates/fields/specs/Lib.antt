pub mod Fields
pub mod Remarks
pub mod Writing
pub mod Forms
pub mod Views
pub mod Laws
pub mod steps
