use Rattle.explain_reads_from.proofs.MissedLemmas.{missed_calls_refute}
use Rattle.explain_reads_from.proofs.laws.missed_calls_refute.Goals as goal

pub returns : goal.returns
returns c = missed_calls_refute
