pub mod SerialHistoryLemmas
pub mod AloneRunLemmas
pub mod OrderlyLemmas
pub mod SerialScheduleLemmas
pub mod SoleProcessLemmas
pub mod KeptLemmas
pub mod StartKeptLemmas
pub mod ScriptEndLemmas
