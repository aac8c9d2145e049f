pub mod PromiseTurns
pub mod PromiseWritten
pub mod PromiseEnds
pub mod PromiseHeadline
pub mod PromiseBoot
pub mod PromiseAll
pub mod OutcomeLemmas
pub mod TopCompletes
pub mod TopShows
pub mod TopFormats
pub mod PromiseTable
pub mod SoakPromise
mod ServeAccount
pub mod ServePromise
pub mod AnsweredBy
mod SinkCounts
mod Serving
pub mod TopLists
pub mod Unasked
pub mod SoakTop
pub mod ServeTop
