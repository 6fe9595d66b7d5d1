use Rattle.follow_laws.proofs.EffectPartLemmas.{parts_judge}
use Rattle.follow_laws.proofs.effect_laws.parts_judge.Goals as goal

pub returns : goal.returns
returns c = parts_judge
