mod Common
mod OnceLemmas
pub mod PlacedLemmas
mod SortedLemmas
mod DisjointLemmas
mod MergeLemmas
pub mod PointLemmas
mod SortedMergeLemmas
mod UniqueMergeLemmas
