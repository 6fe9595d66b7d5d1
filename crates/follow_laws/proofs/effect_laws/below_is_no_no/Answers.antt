use Rattle.follow_laws.proofs.WiderRuleLemmas.{no_no}
use Rattle.follow_laws.proofs.effect_laws.below_is_no_no.Goals as goal

pub returns : goal.returns
returns c = no_no
