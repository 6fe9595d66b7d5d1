mod Common
mod KeyRangeLemmas
mod ChainLemmas
mod CutLemmas
mod WalkLemmas
pub mod UniqueSegmentLemmas
