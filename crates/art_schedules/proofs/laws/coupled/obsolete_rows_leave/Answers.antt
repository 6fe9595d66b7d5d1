use Rattle.art_schedules.proofs.coupled.LeaveLemmas.{rests-have-none, obsolete-rows-leave}
use Rattle.art_schedules.proofs.laws.coupled.obsolete_rows_leave.Goals as goal

pub returns-clause-first : goal.returns-clause-first
returns-clause-first c = rests-have-none

pub returns-clause-next : goal.returns-clause-next
returns-clause-next c = obsolete-rows-leave
