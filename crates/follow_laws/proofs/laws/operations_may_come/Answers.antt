use Rattle.follow_laws.proofs.ComeLemmas.{operations_may_come}
use Rattle.follow_laws.proofs.laws.operations_may_come.Goals as goal

pub returns : goal.returns
returns c = operations_may_come
