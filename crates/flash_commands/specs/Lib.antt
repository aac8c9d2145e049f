pub mod Showing
pub mod Formatting
pub mod Soaking
pub mod SoakWays
