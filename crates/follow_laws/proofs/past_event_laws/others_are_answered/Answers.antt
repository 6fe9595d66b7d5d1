use Rattle.follow_laws.proofs.PastEventLemmas.{others_are_answered}
use Rattle.follow_laws.proofs.past_event_laws.others_are_answered.Goals as goal

pub returns : goal.returns
returns c = others_are_answered
