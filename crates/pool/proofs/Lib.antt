mod Common
mod DealLemmas
mod GatherLemmas
mod KnownLemmas
mod OneCallLemmas
mod PassedLemmas
