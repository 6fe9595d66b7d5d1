use Rattle.follow_laws.proofs.ComeLemmas.{operations_come_next}
use Rattle.follow_laws.proofs.laws.operations_come_next.Goals as goal

pub returns : goal.returns
returns c = operations_come_next
