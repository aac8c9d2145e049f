pub mod Steps
pub mod Writes
pub mod Guard
pub mod Device
pub mod Flash
