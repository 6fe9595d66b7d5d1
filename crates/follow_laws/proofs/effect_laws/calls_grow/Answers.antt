use Rattle.follow_laws.proofs.GrowLemmas.{grow}
use Rattle.follow_laws.proofs.effect_laws.calls_grow.Goals as goal

pub returns : goal.returns
returns c = grow
