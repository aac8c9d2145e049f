pub mod Draws
pub mod Setup
pub mod Generated
pub mod Rounds
pub mod Calls
pub mod Line
pub mod Law
