use Rattle.follow_monitor.proofs.EventLemmas.{answer_has_call}
use Rattle.follow_monitor.proofs.prefix_laws.answers_have_calls.Goals as goal

pub returns : goal.returns
returns c history place process reply h here = answer_has_call history.events place process reply h.events.well_formed here
