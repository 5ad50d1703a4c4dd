pub mod Numbers
pub mod Fitted
pub mod Steered
pub mod Passes
