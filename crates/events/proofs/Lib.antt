pub mod Lists
pub mod FilterLemmas
pub mod NumberLemmas
pub mod Places
pub mod RisingLemmas
pub mod ZipLemmas
mod Common
pub mod HistoryLemmas
pub mod OperationLemmas
pub mod ExtensionLemmas
pub mod TimeLemmas
pub mod OpenCallLemmas
pub mod StartLemmas
pub mod FirstFaultLemmas
pub mod SortLemmas
pub mod GrowthLemmas
pub mod MergeLemmas
