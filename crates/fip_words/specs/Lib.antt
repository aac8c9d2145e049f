pub use Rattle.clap_words.specs.Words
pub use Rattle.clap_words.specs.Answers
pub use Rattle.clap_words.specs.Plain
pub mod Arguments
pub mod Commands
pub mod Values
pub mod Order
