pub mod Aside
mod Forks
mod KeptPlaces
pub mod Stretches
pub mod Cells
pub mod Entries
pub mod Fitting
pub mod Opened
pub mod Writes
pub mod Neighbours
pub mod Blocks
pub mod SpawnedLinks
pub mod Keeps
