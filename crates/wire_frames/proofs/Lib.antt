pub mod Fronts
pub mod Numbers
pub mod Places
pub mod Once
pub mod Readings
pub mod Filling
pub mod Stopping
