pub mod Spelled
pub mod Directory
pub mod Map
