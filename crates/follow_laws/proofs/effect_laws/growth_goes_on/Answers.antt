use Rattle.follow_laws.proofs.GrowthLemmas.{growth_on}
use Rattle.follow_laws.proofs.effect_laws.growth_goes_on.Goals as goal

pub returns : goal.returns
returns c = growth_on
