mod Common
mod ReportLemmas
mod AnswerLemmas
mod VerdictLemmas
mod OneCallLemmas
pub mod ReachedLemmas
