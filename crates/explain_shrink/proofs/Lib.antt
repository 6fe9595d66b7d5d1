mod Common
pub mod AnyLemmas
pub mod AgreeLemmas
mod RelaxedLemmas
mod RestLemmas
mod EnoughLemmas
