pub mod Search
pub mod Walks
pub mod Costs
pub mod Working
pub mod Simulating
