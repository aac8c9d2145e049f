pub mod Ends
pub mod Written
pub mod Scene
pub mod Serving
pub mod Going
pub mod Holds
