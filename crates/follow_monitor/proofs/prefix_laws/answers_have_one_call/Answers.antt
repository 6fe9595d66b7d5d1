use Rattle.follow_monitor.proofs.EventLemmas.{one_call}
use Rattle.follow_monitor.proofs.prefix_laws.answers_have_one_call.Goals as goal

pub returns : goal.returns
returns c history number other place h first second = one_call history.events number other place h.events.well_formed first second
