mod Common
mod ToldLemmas
pub mod ReadLemmas
mod ApartLemmas
pub mod VainLemmas
mod IdleLemmas
mod DeadLemmas
pub mod MarkLemmas
pub mod StandingLemmas
pub mod EarliestLemmas
pub mod FirstKeyLemmas
pub mod TwinLemmas
