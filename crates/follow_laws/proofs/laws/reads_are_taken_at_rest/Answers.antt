use Rattle.follow_laws.proofs.RestLemmas.{reads_at_rest}
use Rattle.follow_laws.proofs.laws.reads_are_taken_at_rest.Goals as goal

pub returns : goal.returns
returns c = reads_at_rest
