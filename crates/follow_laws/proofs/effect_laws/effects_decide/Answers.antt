use Rattle.follow_laws.proofs.NoneLemmas.{effects_decide}
use Rattle.follow_laws.proofs.effect_laws.effects_decide.Goals as goal

pub returns : goal.returns
returns c = effects_decide
