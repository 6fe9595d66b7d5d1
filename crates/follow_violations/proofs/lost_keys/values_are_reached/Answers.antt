use Rattle.follow_violations.proofs.ReachLemmas.{values_are_reached}
use Rattle.follow_violations.proofs.lost_keys.values_are_reached.Goals as goal

pub returns : goal.returns
returns c = values_are_reached
