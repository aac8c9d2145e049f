pub mod Steps
pub mod Starts
pub mod Requested
pub mod Holds
