use Rattle.follow_laws.proofs.TakenLemmas.{taken_calls_agree}
use Rattle.follow_laws.proofs.past_event_laws.taken_calls_agree.Goals as goal

pub returns : goal.returns
returns c = taken_calls_agree
