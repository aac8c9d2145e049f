pub mod Verdict
pub mod Law
pub mod Passed
pub mod Taken
