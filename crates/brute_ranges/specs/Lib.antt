pub mod Tics
pub mod Space
pub mod Wheels
