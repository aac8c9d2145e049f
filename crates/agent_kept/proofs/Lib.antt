pub mod Installable
pub mod Grown
pub mod Sounds
pub mod Changes
pub mod Meant
pub mod After
