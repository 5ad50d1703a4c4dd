pub mod Sums
pub mod Blocks
pub mod Keeps
pub mod Seats
