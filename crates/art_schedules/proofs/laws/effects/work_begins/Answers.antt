use Rattle.art_schedules.proofs.effects.WorkBeginLemmas.{work-begins}
use Rattle.art_schedules.proofs.laws.effects.work_begins.Goals as goal

pub returns : goal.returns
returns c = λ s real calm h work long. work-begins s real calm long h work
