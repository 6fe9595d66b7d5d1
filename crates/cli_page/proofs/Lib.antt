mod OutcomeLemmas
pub mod PageLemmas
