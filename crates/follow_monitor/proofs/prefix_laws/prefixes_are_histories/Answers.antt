use Rattle.follow_monitor.proofs.PrefixLemmas.{prefix_is_history}
use Rattle.follow_monitor.proofs.prefix_laws.prefixes_are_histories.Goals as goal

pub returns : goal.returns
returns c history count h = record { start = h.start; events = prefix_is_history history.events count h.events }
