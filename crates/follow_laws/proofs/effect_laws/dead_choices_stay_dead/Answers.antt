use Rattle.follow_laws.proofs.DeadLemmas.{dead_stay_dead}
use Rattle.follow_laws.proofs.effect_laws.dead_choices_stay_dead.Goals as goal

pub returns : goal.returns
returns c = dead_stay_dead
