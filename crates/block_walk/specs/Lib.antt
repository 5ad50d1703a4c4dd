pub mod Near
pub mod Steps
pub mod Visits
pub mod Traces
pub use Rattle.map_geometry.specs.Lists
pub use Rattle.map_geometry.specs.Blocks
pub use Rattle.map_geometry.specs.Sides
pub use Rattle.map_geometry.specs.Places
