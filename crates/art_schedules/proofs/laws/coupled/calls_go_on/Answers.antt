use Rattle.art_schedules.proofs.coupled.MoveLemmas.{calls-go-on}
use Rattle.art_schedules.proofs.laws.coupled.calls_go_on.Goals as goal

pub returns : goal.returns
returns c = calls-go-on c.kept_trees_follow.ensures c.ways_lead_to_values.ensures c.leaves_are_small.ensures
