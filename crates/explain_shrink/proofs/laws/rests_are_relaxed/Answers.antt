use Rattle.explain_shrink.proofs.RestLemmas.{rest_relaxed}
use Rattle.explain_shrink.proofs.laws.rests_are_relaxed.Goals as goal

pub returns : goal.returns
returns c = rest_relaxed
