pub mod Calls
pub mod Costs
pub mod Counts
pub mod Devices
pub mod FileShelf
pub mod MemShelf
pub mod MemSink
