pub mod Splices
pub mod Joined
pub mod Builds
pub mod Held
pub mod Reels
pub mod Sessions
