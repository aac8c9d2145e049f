pub mod Touching
mod Boots
pub mod SendTurns
pub mod CallTurns
pub mod CallTakes
pub mod Called
pub mod RunTurns
pub mod Staying
pub mod Quiets
