use Rattle.follow_laws.proofs.CallLemmas.{reads_come_next}
use Rattle.follow_laws.proofs.laws.reads_come_next.Goals as goal

pub returns : goal.returns
returns c = reads_come_next
