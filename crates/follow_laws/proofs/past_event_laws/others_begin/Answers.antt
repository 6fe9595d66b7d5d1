use Rattle.follow_laws.proofs.PastEventLemmas.{others_begin}
use Rattle.follow_laws.proofs.past_event_laws.others_begin.Goals as goal

pub returns : goal.returns
returns c = others_begin
