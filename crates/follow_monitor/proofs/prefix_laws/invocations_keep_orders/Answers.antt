use Rattle.follow_monitor.proofs.PrefixLemmas.{invocation_keeps_order}
use Rattle.follow_monitor.proofs.prefix_laws.invocations_keep_orders.Goals as goal

pub returns : goal.returns
returns c history process call h = invocation_keeps_order history.start history.events process call h
