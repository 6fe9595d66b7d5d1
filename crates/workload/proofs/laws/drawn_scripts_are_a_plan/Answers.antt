use Rattle.workload.proofs.DrawnLemmas.{scripts_of-are_scripts}
use Rattle.workload.proofs.laws.drawn_scripts_are_a_plan.Goals as goal

pub returns : goal.returns
returns c seed processes calls mix lt whole keys within = scripts_of-are_scripts seed processes calls mix lt keys within
