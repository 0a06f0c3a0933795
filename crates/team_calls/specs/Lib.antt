pub mod Reading
pub mod Lists
pub mod Laws
pub mod Never
