use Rattle.art_schedules.proofs.optimistic.OwnStepLemmas.{own-steps-go-on}
use Rattle.art_schedules.proofs.laws.optimistic.own_steps_go_on.Goals as goal

pub returns : goal.returns
returns c = own-steps-go-on c.ways_lead_to_values.ensures c.leaves_are_small.ensures
