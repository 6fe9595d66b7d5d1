pub mod PartLaws
pub mod StageLemmas
pub mod MarkBridgeLemmas
pub mod LedLemmas
pub mod OwnLemmas
pub mod InstanceLemmas
pub mod ScanKeptLemmas
pub mod ClosingLemmas
