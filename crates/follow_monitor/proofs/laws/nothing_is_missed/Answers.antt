use Rattle.follow_monitor.proofs.MissLemmas.{nothing_is_missed}
use Rattle.follow_monitor.proofs.laws.nothing_is_missed.Goals as goal

pub returns : goal.returns
returns c = nothing_is_missed
