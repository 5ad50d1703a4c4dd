pub mod Ways
pub mod BlockLists
pub mod Groups
pub mod Derived
pub mod Gathered
