pub mod Arrays
pub mod ImageRows
pub mod Layouts
pub mod Places
pub mod Fits
pub mod Metas
pub mod Writes
pub mod Same
