use Rattle.follow_monitor.proofs.ReachLemmas.{doubts_are_reached, losses_are_reached}
use Rattle.follow_monitor.proofs.laws.losses_are_reached.Goals as goal

pub returns-clause-lost : goal.returns-clause-lost
returns-clause-lost c = losses_are_reached c.values_are_reached.ensures

pub returns-clause-spent : goal.returns-clause-spent
returns-clause-spent c = doubts_are_reached c.values_are_reached.ensures
