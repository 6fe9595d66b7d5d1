mod Common
mod ReportLemmas
mod OwnLemmas
pub mod StreamLemmas
mod FirstLemmas
mod EventLineLemmas
mod FollowedLemmas
mod RefusalLemmas
mod JudgedLemmas
mod ReadingLemmas
mod AddedLemmas
mod LineLemmas
mod StopLemmas
