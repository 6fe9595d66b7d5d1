use Rattle.follow_laws.proofs.PastLemmas.{kept_pasts_are_within}
use Rattle.follow_laws.proofs.step_laws.kept_pasts_are_within.Goals as goal

pub returns : goal.returns
returns c = kept_pasts_are_within
