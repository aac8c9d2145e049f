pub mod Steps
pub mod Lines
pub mod Tool
pub mod Wrote
pub mod Converted
pub mod Done
pub mod Names
