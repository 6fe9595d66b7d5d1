use Rattle.art_schedules.proofs.work.DoneLawLemmas.{work-done}
use Rattle.art_schedules.proofs.laws.work.work_is_done.Goals as goal

pub returns : goal.returns
returns c = work-done
