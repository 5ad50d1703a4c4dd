pub mod Lights
pub mod Begins
pub mod LineLights
pub use Rattle.cow_world.specs.Flat
pub use Rattle.cow_world.specs.Fits
pub use Rattle.cow_world.specs.Random
pub use Rattle.cow_world.specs.Around
