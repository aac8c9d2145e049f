mod Starting
mod Discovered
pub mod OwnRows
pub mod StoredVerdict
pub mod Listing
mod Makes
mod Appending
pub mod CopySpending
pub mod Copies
pub mod CopyingAll
pub mod BegunPartly
pub mod CopyPadded
mod PlannedPartly
pub mod Taking
pub mod Pieces
pub mod CopyTaking
mod CopyFilling
