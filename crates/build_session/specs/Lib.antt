pub mod Lines
pub mod Searches
pub mod Session
pub mod Costs
pub mod Seen
pub mod Runs
