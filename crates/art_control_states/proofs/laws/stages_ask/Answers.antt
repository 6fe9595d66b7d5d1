use Rattle.art_control_states.proofs.BehindLemmas.{call_next}
use Rattle.art_control_states.proofs.laws.stages_ask.Goals as goal

pub returns : goal.returns
returns c = call_next
