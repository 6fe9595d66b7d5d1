use Rattle.art_schedules.proofs.optimistic.OtherLemmas.{other-steps-keep-ways}
use Rattle.art_schedules.proofs.laws.optimistic.other_steps_keep_ways.Goals as goal

pub returns : goal.returns
returns c = other-steps-keep-ways
