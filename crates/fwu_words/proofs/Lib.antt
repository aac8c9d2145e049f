pub mod PlainWords
pub mod AllowLemmas
