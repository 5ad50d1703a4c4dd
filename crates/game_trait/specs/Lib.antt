pub mod Shown
pub mod Replay
pub use Rattle.doom_edge.specs.Counts
