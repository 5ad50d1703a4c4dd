pub mod File
pub mod Found
pub mod Numbers
pub mod Octants
pub mod Order
pub mod Words
