pub mod Written
pub mod Form
pub mod Unwritable
pub mod Laws
