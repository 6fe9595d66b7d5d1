use Rattle.certificate.proofs.ToldLemmas.{same_orders}
use Rattle.certificate.proofs.partial_laws.orders_are_those_of_told_calls.Goals as goal

pub returns : goal.returns
returns c = same_orders
