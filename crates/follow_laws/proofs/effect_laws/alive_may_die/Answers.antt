use Rattle.follow_laws.proofs.WiderRuleLemmas.{may_die}
use Rattle.follow_laws.proofs.effect_laws.alive_may_die.Goals as goal

pub returns : goal.returns
returns c = may_die
