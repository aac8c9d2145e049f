pub mod OneFile
