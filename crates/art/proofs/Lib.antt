mod KeyWordLemmas
mod GoingLemmas
pub mod DoingLemmas
