pub mod Arrivals
pub mod ByHand
pub mod Markers
