use Rattle.search_choices.proofs.Common.{IfSome, IsReported, places}
use Rattle.search_choices.proofs.dead.first_report.Given as goal

-- the earliest answer so far
abbrev pub invariant-loop-place : goal.invariant-loop-place
invariant-loop-place g l = IfSome l.earliest (IsReported l.calls (places l.standing.levels.items) l.other l.key l.value)
