pub mod BoardLines
