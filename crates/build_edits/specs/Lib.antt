pub mod Parts
pub mod Kept
pub mod Edits
pub mod Built
pub mod Lists
pub use Rattle.lmp_codec.specs.Demo
pub use Rattle.game_trait.specs.Replay
pub use Rattle.key_frames.specs.Frames
