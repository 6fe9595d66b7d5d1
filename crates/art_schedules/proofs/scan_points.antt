pub mod CheckLemmas
pub mod AloneLemmas
pub mod PointLemmas
