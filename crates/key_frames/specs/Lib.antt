pub mod Frames
pub use Rattle.game_trait.specs.Replay
