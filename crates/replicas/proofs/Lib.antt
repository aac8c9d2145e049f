pub mod Reading
pub mod Both
pub mod Touching
