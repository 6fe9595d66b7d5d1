use Rattle.art_schedules.proofs.effects.MarkLemmas.{unmarked}
use Rattle.art_schedules.proofs.laws.effects.workers_may_have_no_mark.Goals as goal

pub returns : goal.returns
returns c = unmarked
