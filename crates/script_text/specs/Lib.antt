pub mod Armable
pub mod Shown
pub mod Limit
pub mod Law
