use Rattle.follow_laws.proofs.RestLemmas.{calls_without_effect}
use Rattle.follow_laws.proofs.call_laws.calls_without_effect_are_taken.Goals as goal

pub returns : goal.returns
returns c = calls_without_effect
