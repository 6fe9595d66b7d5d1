mod Common
mod RecordLemmas
mod MergeLemmas
mod PassLemmas
mod CloseLemmas
mod OpenLemmas
