pub mod FormatFlash
pub mod SoakSetting
pub mod SoakTurns
pub mod SoakRounds
pub mod SoakEnding
