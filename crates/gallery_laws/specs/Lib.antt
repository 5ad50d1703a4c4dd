pub mod Played
pub mod Lumps
