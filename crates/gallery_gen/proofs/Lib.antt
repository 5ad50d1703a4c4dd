pub mod Each
pub mod Drawing
