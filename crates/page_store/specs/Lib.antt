pub mod Pages
pub mod Under
pub mod Over
