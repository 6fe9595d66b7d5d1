use Rattle.follow_laws.proofs.DisturbedLemmas.{pending_disturb}
use Rattle.follow_laws.proofs.effect_laws.pending_calls_disturb.Goals as goal

pub returns : goal.returns
returns c = pending_disturb
