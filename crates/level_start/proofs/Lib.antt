pub mod Angles
pub mod Entered
pub mod Linked
