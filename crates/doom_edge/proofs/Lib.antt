pub mod Costs
pub mod Entries
