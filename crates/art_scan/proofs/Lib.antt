mod Common
mod ByteLemmas
mod KeyByteLemmas
mod NextLemmas
mod RangeLemmas
mod WayLemmas
