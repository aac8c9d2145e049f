pub mod Pieces
pub mod Directories
pub mod Joins
pub mod Reading
pub mod Once
