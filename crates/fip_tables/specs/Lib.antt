pub mod Answers
pub mod Files
pub mod Stream
pub mod Packing
pub mod Again
pub mod Frame
pub mod Images
