use Rattle.follow_laws.proofs.WiderRuleLemmas.{no_yes}
use Rattle.follow_laws.proofs.effect_laws.above_is_no_yes.Goals as goal

pub returns : goal.returns
returns c = no_yes
