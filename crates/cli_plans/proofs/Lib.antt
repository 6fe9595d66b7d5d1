mod Common
mod WholePlans
mod WholeReplays
mod WholeSchedules
mod VerdictLemmas
