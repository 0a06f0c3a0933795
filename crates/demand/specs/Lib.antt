pub mod Events
pub mod TeamEvents
pub mod Boards
pub mod Demand
