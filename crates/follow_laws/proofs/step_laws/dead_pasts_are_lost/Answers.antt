use Rattle.follow_laws.proofs.KeptStepLemmas.{dead_pasts_are_lost}
use Rattle.follow_laws.proofs.step_laws.dead_pasts_are_lost.Goals as goal

pub returns : goal.returns
returns c = dead_pasts_are_lost
