mod Common
pub mod ReaderLemmas
pub mod WriterLemmas
pub mod KindLemmas
pub mod ByteLemmas
mod BytePlaces
pub mod RecursionLemmas
pub mod GuardLemmas
pub mod TurnLemmas
mod TableLemmas
pub mod AccessLemmas
