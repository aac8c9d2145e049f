pub mod Promises
pub mod Outcomes
pub mod Soaked
pub mod ServedBy
pub mod Serves
pub mod Handed
pub mod Here
pub mod NoTurns
