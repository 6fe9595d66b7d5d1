use Rattle.follow_laws.proofs.KeptStepLemmas.{pasts_move_on}
use Rattle.follow_laws.proofs.step_laws.pasts_move_on.Goals as goal

pub returns : goal.returns
returns c = pasts_move_on
