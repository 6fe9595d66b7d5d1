use Rattle.std.proofs.Common.{arith}
use Rattle.follow_monitor.proofs.EventLemmas.{few_events}
use Rattle.follow_monitor.proofs.prefix_laws.histories_have_few_events.Goals as goal

pub returns : goal.returns
returns c history h = omega (arith, few_events history.events h.events.well_formed, h.events.calls)
