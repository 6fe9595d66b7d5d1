use Rattle.art_schedules.proofs.effects.MarkLemmas.{enders-go-on}
use Rattle.art_schedules.proofs.laws.effects.enders_go_on.Goals as goal

pub returns : goal.returns
returns c = enders-go-on c.leavers_step.ensures
