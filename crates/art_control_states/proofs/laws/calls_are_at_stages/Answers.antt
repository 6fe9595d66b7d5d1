use Rattle.art_control_states.proofs.BehindLemmas.{behind}
use Rattle.art_control_states.proofs.laws.calls_are_at_stages.Goals as goal

pub returns : goal.returns
returns c = behind
