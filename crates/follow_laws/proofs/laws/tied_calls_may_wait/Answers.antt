use Rattle.follow_laws.proofs.WiderLemmas.{tied_calls_may_wait}
use Rattle.follow_laws.proofs.laws.tied_calls_may_wait.Goals as goal

pub returns : goal.returns
returns c = tied_calls_may_wait
