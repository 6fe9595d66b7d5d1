-- Points of calls.
pub mod ChoiceLemmas
pub mod PlaceLemmas
pub mod PointLemmas
pub mod WindowLemmas
