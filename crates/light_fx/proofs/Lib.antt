pub mod Lamps
pub mod Begun
