use Rattle.follow_laws.proofs.EventLemmas.{begun_calls_are_left}
use Rattle.follow_laws.proofs.call_laws.begun_calls_are_left.Goals as goal

pub returns : goal.returns
returns c = begun_calls_are_left
