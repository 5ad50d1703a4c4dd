pub mod LineBits
pub mod Holds
