pub mod ArgumentLemmas
pub mod PlainWords
pub mod Unpacked
pub mod Distinct
