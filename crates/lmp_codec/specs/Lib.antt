pub mod Header
pub mod Turns
pub mod Tics
pub mod Demo
