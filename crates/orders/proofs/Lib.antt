pub mod CallsAtLemmas
pub mod LegalLemmas
pub mod OrderLemmas
pub mod PlaceLemmas
mod PlainLemmas
mod Common
pub mod BelongingLemmas
pub mod RangeLemmas
pub mod PartLemmas
pub mod SegmentLemmas
pub mod LocalityLemmas
pub mod SegmentViewLemmas
