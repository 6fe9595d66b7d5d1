use Rattle.follow_laws.proofs.KeptDecideLemmas.{kept_parts_decide}
use Rattle.follow_laws.proofs.step_laws.kept_parts_decide.Goals as goal

pub returns : goal.returns
returns c = kept_parts_decide
