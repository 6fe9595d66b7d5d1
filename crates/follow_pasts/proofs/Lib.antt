mod Common
mod PastLemmas
pub mod UnionLemmas
pub mod TogetherLemmas
mod MergeLemmas
mod TakenLemmas
mod RangeLemmas
mod MomentLemmas
mod FitLemmas
pub mod AnswerLemmas
pub mod AnsweringLemmas
pub mod LeftLemmas
pub mod PairLemmas
mod BusyLemmas
mod RestingLemmas
mod WithinLemmas
pub mod ListLemmas
pub mod OpenReadLemmas
pub mod SeenLemmas
