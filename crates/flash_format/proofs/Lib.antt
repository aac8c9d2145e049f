pub mod Ranges
pub mod Recorded
pub mod Plans
pub mod Formats
pub mod Given
pub mod Taking
mod Stopped
