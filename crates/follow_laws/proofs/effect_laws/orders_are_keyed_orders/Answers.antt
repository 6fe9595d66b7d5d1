use Rattle.follow_laws.proofs.BridgeLemmas.{keyed_orders}
use Rattle.follow_laws.proofs.effect_laws.orders_are_keyed_orders.Goals as goal

pub returns : goal.returns
returns c = keyed_orders
