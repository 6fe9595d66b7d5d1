pub mod PartLaws
pub mod SmallLemmas
pub mod LedLemmas
pub mod OwnLemmas
pub mod AnswerLemmas
pub mod InstanceLemmas
