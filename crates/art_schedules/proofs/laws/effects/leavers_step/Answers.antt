use Rattle.art_schedules.proofs.effects.OwnStepLemmas.{leavers-step}
use Rattle.art_schedules.proofs.laws.effects.leavers_step.Goals as goal

pub returns : goal.returns
returns c = leavers-step c.children_are_read.ensures c.kept_trees_follow.ensures c.effects_follow.ensures c.ways_say_values.ensures
