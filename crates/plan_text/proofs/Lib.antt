mod Common
pub mod AmongLemmas
pub mod JsonLemmas
pub mod PlanTextLemmas
pub mod WrittenPlanLemmas
pub mod PlanSizeLemmas
pub mod PartLemmas
pub mod ItemLemmas
pub mod RisingPairLemmas
pub mod ReplayTextLemmas
pub mod WrittenReplayLemmas
mod ReplaySizeLemmas
