pub mod FourLanes
pub mod LaneWords
pub mod Blocks
pub mod Ends
pub mod LaneStates
