pub mod Shown
pub mod Step
pub mod Doom
pub mod Rules
pub use Rattle.cow_world.specs.Flat
pub use Rattle.cow_world.specs.Fits
pub use Rattle.cow_world.specs.Outcome
pub use Rattle.level_start.specs.Start
