pub mod Named
pub mod Tagwise
pub mod Turns
pub mod LiftsLeft
