pub mod RunEnds
pub mod TopSources
pub mod Making
pub mod TopWays
pub mod TableOpens
mod Refused
pub mod TableWays
