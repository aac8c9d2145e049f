pub mod AnswerLemmas
pub mod CommandLemmas
pub mod EachLemmas
pub mod FoundLemmas
pub mod NoFlags
pub mod Refusals
pub mod SplitLemmas
