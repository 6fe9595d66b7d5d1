use Rattle.follow_laws.proofs.DecideLemmas.{parts_decide}
use Rattle.follow_laws.proofs.laws.parts_decide.Goals as goal

pub returns : goal.returns
returns c = parts_decide
