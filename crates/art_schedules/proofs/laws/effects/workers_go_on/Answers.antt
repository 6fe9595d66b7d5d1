use Rattle.art_schedules.proofs.effects.OwnStepLemmas.{workers-go-on}
use Rattle.art_schedules.proofs.laws.effects.workers_go_on.Goals as goal

pub returns : goal.returns
returns c = workers-go-on c.children_are_read.ensures c.kept_trees_follow.ensures c.effects_follow.ensures c.ways_say_values.ensures
    c.work_is_done.ensures
