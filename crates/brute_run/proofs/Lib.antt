pub mod Along
pub mod Passing
pub mod Dues
pub mod Turning
pub mod Gathering
pub mod Totals
pub mod Starting
pub mod Trying
