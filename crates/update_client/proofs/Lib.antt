pub mod Staging
pub mod Halting
pub mod WrittenPiece
pub mod WrittenImage
pub mod SentImages
pub mod Finished
pub mod Chosen
pub mod OwnImages
pub mod Installed
mod Packaged
mod Started
pub mod WholeSending
mod Spending
mod Sparing
mod Keeping
pub mod ImagesTaking
mod Unsent
mod Over
mod Present
mod Named
mod WholePartly
