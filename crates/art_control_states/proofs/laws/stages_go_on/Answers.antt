use Rattle.art_control_states.proofs.StepLemmas.{goes_on}
use Rattle.art_control_states.proofs.laws.stages_go_on.Goals as goal

pub returns : goal.returns
returns c = goes_on
