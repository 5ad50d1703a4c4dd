pub mod Fixed
pub mod Tables
pub mod Angle
pub mod Kept
pub mod TableFile
pub mod FirstFault
