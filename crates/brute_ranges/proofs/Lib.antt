pub mod Same
pub mod Product
pub mod Sequences
pub mod Turns
