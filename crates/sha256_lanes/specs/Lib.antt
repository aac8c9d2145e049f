pub mod Lanes
pub mod Holding
pub mod OneBlock
