pub mod Headers
pub mod OneByOne
pub mod Made
pub mod ReadAgain
pub mod Within
pub mod Frames
