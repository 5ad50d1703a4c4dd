pub mod Each
pub mod Standing
pub mod Turns
pub mod Running
