pub mod ByteLemmas
pub mod WordLemmas
pub mod VersionLemmas
pub mod TableLemmas
pub mod KeyLemmas
