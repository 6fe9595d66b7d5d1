use Rattle.follow_laws.proofs.PastEventLemmas.{answered_calls_are_kept}
use Rattle.follow_laws.proofs.past_event_laws.answered_calls_are_kept.Goals as goal

pub returns : goal.returns
returns c = answered_calls_are_kept
