pub mod Asides
pub mod Encounters
pub mod Once
pub mod Listing
pub mod Halts
