use Rattle.follow_laws.proofs.KeptEventLemmas.{changes_begin}
use Rattle.follow_laws.proofs.event_laws.changes_begin.Goals as goal

pub returns : goal.returns
returns c = changes_begin
