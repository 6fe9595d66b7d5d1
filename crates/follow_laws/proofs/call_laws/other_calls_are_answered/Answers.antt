use Rattle.follow_laws.proofs.EventLemmas.{other_calls_are_answered}
use Rattle.follow_laws.proofs.call_laws.other_calls_are_answered.Goals as goal

pub returns : goal.returns
returns c = other_calls_are_answered
