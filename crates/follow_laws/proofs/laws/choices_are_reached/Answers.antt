use Rattle.follow_laws.proofs.ReachLemmas.{choices_are_reached}
use Rattle.follow_laws.proofs.laws.choices_are_reached.Goals as goal

pub returns : goal.returns
returns c = choices_are_reached
