use Rattle.art_control_states.proofs.RefusalLemmas.{refused}
use Rattle.art_control_states.proofs.laws.refuses_only_at_capacity.Goals as goal

pub returns : goal.returns
returns c = refused
