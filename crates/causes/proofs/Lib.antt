pub mod Calm
pub mod UnknownKinds
pub mod RefusedRests
pub mod Theorems
