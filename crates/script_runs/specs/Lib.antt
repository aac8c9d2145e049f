pub mod Sourced
pub mod Ending
pub mod Ways
pub mod ByTable
pub mod WaysByTable
