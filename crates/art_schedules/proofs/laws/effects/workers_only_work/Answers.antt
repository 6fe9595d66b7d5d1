use Rattle.art_schedules.proofs.effects.MarkLemmas.{only-work}
use Rattle.art_schedules.proofs.laws.effects.workers_only_work.Goals as goal

pub returns : goal.returns
returns c = only-work
