use Rattle.art_schedules.proofs.coupled.MoveLemmas.{calls-stay}
use Rattle.art_schedules.proofs.laws.coupled.calls_stay.Goals as goal

pub returns : goal.returns
returns c = calls-stay c.kept_trees_follow.ensures
