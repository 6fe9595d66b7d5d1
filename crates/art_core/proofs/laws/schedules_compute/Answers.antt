use Rattle.art_core.proofs.ScheduleLemmas.{computes}
use Rattle.art_core.proofs.laws.schedules_compute.Goals as goal

pub returns : goal.returns
returns c = computes
