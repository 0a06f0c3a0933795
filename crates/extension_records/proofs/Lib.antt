pub mod Payloads
pub mod Held
