use Rattle.follow_laws.proofs.AlikeLemmas.{alike_decide}
use Rattle.follow_laws.proofs.effect_laws.alike_calls_decide.Goals as goal

pub returns : goal.returns
returns c = alike_decide
