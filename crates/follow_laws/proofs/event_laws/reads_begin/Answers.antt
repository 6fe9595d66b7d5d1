use Rattle.follow_laws.proofs.KeptEventLemmas.{reads_begin}
use Rattle.follow_laws.proofs.event_laws.reads_begin.Goals as goal

pub returns : goal.returns
returns c = reads_begin
