use Rattle.follow_monitor.proofs.PrefixLemmas.{prefix_has_order}
use Rattle.follow_monitor.proofs.prefix_laws.prefixes_have_orders.Goals as goal

pub returns : goal.returns
returns c history count h = prefix_has_order history.start history.events count h
