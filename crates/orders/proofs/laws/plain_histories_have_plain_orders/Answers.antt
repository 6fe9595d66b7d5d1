use Rattle.orders.proofs.PlainLemmas.{plain_orders}
use Rattle.orders.proofs.laws.plain_histories_have_plain_orders.Goals as goal

pub returns : goal.returns
returns c = plain_orders
