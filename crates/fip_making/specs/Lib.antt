pub mod Stops
pub mod Answers
pub mod Values
pub mod Payloads
