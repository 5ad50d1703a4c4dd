pub mod Sound
pub mod Ways
pub mod Kept
pub mod Spans
pub mod Walked
pub mod Tagged
pub mod Told
