mod OrderLemmas
mod ExternalLemmas
mod PutLemmas
mod MissedLemmas
