mod Common
pub mod StandingLemmas
pub mod ClosedLemmas
mod GuessLemmas
mod TakeLemmas
mod MendLemmas
