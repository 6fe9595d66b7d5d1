use Rattle.art_schedules.proofs.optimistic.QuietLemmas.{quiet-steps-keep-trees}
use Rattle.art_schedules.proofs.laws.optimistic.quiet_steps_keep_trees.Goals as goal

pub returns : goal.returns
returns c = quiet-steps-keep-trees
