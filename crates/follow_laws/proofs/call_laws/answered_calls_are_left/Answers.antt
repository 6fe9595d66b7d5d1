use Rattle.follow_laws.proofs.EventLemmas.{answered_calls_are_left}
use Rattle.follow_laws.proofs.call_laws.answered_calls_are_left.Goals as goal

pub returns : goal.returns
returns c = answered_calls_are_left
