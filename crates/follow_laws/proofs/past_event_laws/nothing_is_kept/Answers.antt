use Rattle.follow_laws.proofs.PastEventLemmas.{nothing_is_kept}
use Rattle.follow_laws.proofs.past_event_laws.nothing_is_kept.Goals as goal

pub returns : goal.returns
returns c = nothing_is_kept
