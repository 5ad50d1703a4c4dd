pub mod Spelt
pub mod Filed
pub mod Tests
pub mod Tested
pub mod Read
pub mod Galleries
pub mod Scripted
pub mod Never
