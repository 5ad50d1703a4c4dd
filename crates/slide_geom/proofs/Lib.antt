pub mod Stopped
pub mod Tracing
