pub mod Cases
pub mod Tens
