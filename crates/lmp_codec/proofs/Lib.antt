pub mod Spelling
pub mod Progress
pub mod Fronts
pub mod Verdicts
