pub mod Making
pub mod Packing
pub mod Installing
pub mod Completing
pub mod Naming
mod Worked
