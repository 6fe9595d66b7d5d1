use Rattle.search_choices.specs.Standing.{places}
use Rattle.search_choices.proofs.IdleLemmas.{AreIdleBelow}
use Rattle.search_choices.proofs.idle.are_idle.Given as goal

abbrev pub ghost-is_free : goal.ghost-is_free
ghost-is_free g a = g.start

abbrev pub ghost-may_wait : goal.ghost-may_wait
ghost-may_wait g a = g.start

-- none of those so far waits
abbrev pub invariant-loop-place : goal.invariant-loop-place
invariant-loop-place g l = AreIdleBelow l.calls (places l.standing.levels.items) l.answered l.standing.map l.place
