use Rattle.art_schedules.proofs.moments.ReadLemmas.{runs-have-scans}
use Rattle.art_schedules.proofs.laws.moments.answered_scans_have_moments.Goals as goal

pub returns : goal.returns
returns c = runs-have-scans
