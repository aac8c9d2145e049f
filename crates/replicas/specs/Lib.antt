pub mod Stores
pub mod Which
