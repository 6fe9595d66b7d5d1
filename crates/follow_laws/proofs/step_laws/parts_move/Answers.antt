use Rattle.follow_laws.proofs.KeptStepLemmas.{parts_move}
use Rattle.follow_laws.proofs.step_laws.parts_move.Goals as goal

pub returns : goal.returns
returns c = parts_move
