mod Common
mod CutLemmas
mod EditLemmas
mod GapLemmas
mod LeafLemmas
mod RangeLemmas
mod SearchLemmas
