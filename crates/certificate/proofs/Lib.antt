mod Common
mod CacheRecordingLemmas
mod CacheListLemmas
mod CacheTurnLemmas
mod CacheValueLemmas
mod CacheMapLemmas
mod CacheCallLemmas
mod CacheRunLemmas
mod CacheOrderLemmas
mod FoundAfterOtherLemmas
mod TellLemmas
mod ToldLemmas
pub mod PushLemmas
pub mod PrefixLemmas
pub mod FaultLemmas
