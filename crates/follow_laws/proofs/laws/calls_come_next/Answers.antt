use Rattle.follow_laws.proofs.CallLemmas.{calls_come_next}
use Rattle.follow_laws.proofs.laws.calls_come_next.Goals as goal

pub returns : goal.returns
returns c = calls_come_next
