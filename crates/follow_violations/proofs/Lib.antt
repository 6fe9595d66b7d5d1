mod Common
pub mod LawLemmas
pub mod AnyLemmas
pub mod PairLemmas
pub mod NameLemmas
pub mod WriterLemmas
pub mod OriginLemmas
pub mod LossLemmas
pub mod ReachLemmas
