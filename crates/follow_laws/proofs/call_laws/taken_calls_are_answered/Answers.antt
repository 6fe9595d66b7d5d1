use Rattle.follow_laws.proofs.EventLemmas.{taken_calls_are_answered}
use Rattle.follow_laws.proofs.call_laws.taken_calls_are_answered.Goals as goal

pub returns : goal.returns
returns c = taken_calls_are_answered
