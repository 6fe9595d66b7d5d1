use Rattle.explain_reads_from.proofs.PutLemmas.{what_is_reported_was_put}
use Rattle.explain_reads_from.proofs.laws.what_is_reported_was_put.Goals as goal

pub returns : goal.returns
returns c = what_is_reported_was_put
