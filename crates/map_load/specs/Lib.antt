pub mod Spelled
pub mod Load
pub mod Steps
pub mod Index
pub use Rattle.map_geometry.specs.Level
pub use Rattle.map_geometry.specs.Conditions
pub use Rattle.wad_lumps.specs.Map
