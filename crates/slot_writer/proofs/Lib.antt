pub mod Keeping
pub mod Spending
pub mod Erasing
pub mod Behind
pub mod Appending
