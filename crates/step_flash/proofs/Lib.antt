mod Slices
mod Grows
mod Doable
mod Sounds
mod ReadBack
pub mod Room
pub mod Places
mod Noted
mod Calls
pub mod Guards
pub mod Causes
pub mod Armings
