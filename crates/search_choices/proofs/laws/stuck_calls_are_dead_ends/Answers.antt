use Rattle.search_choices.proofs.DeadLemmas.{stuck_dead}
use Rattle.search_choices.proofs.laws.stuck_calls_are_dead_ends.Goals as goal

pub returns : goal.returns
returns c = stuck_dead
