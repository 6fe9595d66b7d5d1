use Rattle.follow_laws.proofs.DeadLemmas.{dead_go}
use Rattle.follow_laws.proofs.effect_laws.dead_choices_go.Goals as goal

pub returns : goal.returns
returns c = dead_go
