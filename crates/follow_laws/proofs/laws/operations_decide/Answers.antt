use Rattle.follow_laws.proofs.OperationLemmas.{operations_decide}
use Rattle.follow_laws.proofs.laws.operations_decide.Goals as goal

pub returns : goal.returns
returns c = operations_decide
