mod Common
pub mod SpanLemmas
pub mod ReadLemmas
pub mod ReadingLemmas
pub mod FirstLemmas
pub mod BeginningLemmas
pub mod BegunLemmas
pub mod BeginLemmas
pub mod ChangeLemmas
pub mod StartLemmas
pub mod AliveLemmas
pub mod MetLemmas
pub mod GoingLemmas
pub mod ReportLemmas
pub mod EndedLemmas
pub mod ChangedLemmas
pub mod StateAnswerLemmas
pub mod SettledLemmas
pub mod MovedLemmas
pub mod ThenLemmas
pub mod RestedLemmas
mod GoesOnLemmas
pub mod PutLemmas
pub mod SettlingLemmas
pub mod TableLemmas
