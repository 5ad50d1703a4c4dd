pub mod Draws
pub mod Plan
pub mod Lumps
pub mod Wad
pub mod Tables
pub mod Gallery
