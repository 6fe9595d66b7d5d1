pub mod PlaceLemmas
pub mod RangeLemmas
pub mod MapLemmas
pub mod TellLemmas
pub mod ValueLemmas
