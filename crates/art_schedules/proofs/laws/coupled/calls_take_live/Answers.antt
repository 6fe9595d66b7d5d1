use Rattle.art_schedules.proofs.coupled.LeaveLemmas.{ways-take-live, work-takes-live}
use Rattle.art_schedules.proofs.laws.coupled.calls_take_live.Goals as goal

pub returns-clause-way : goal.returns-clause-way
returns-clause-way c = ways-take-live

pub returns-clause-work : goal.returns-clause-work
returns-clause-work c = work-takes-live
