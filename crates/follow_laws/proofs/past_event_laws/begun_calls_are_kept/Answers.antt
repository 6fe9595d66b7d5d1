use Rattle.follow_laws.proofs.PastEventLemmas.{begun_calls_are_kept}
use Rattle.follow_laws.proofs.past_event_laws.begun_calls_are_kept.Goals as goal

pub returns : goal.returns
returns c = begun_calls_are_kept
