pub mod Choosing
pub mod Formatted
pub mod Places
pub mod Stops
