use Rattle.explain_reads_from.proofs.MissedLemmas.{one_is_missed_at_a_key}
use Rattle.explain_reads_from.proofs.laws.one_is_missed_at_a_key.Goals as goal

pub returns : goal.returns
returns c = one_is_missed_at_a_key
