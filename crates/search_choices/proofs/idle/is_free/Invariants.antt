use Rattle.search_choices.specs.Standing.{places}
use Rattle.search_choices.proofs.IdleLemmas.{IsFreeBelow}
use Rattle.search_choices.proofs.idle.is_free.Given as goal

abbrev pub ghost-may_change : goal.ghost-may_change
ghost-may_change g a = g.start

-- none of those so far changes a key of the range
abbrev pub invariant-loop-place : goal.invariant-loop-place
invariant-loop-place g l = IsFreeBelow l.calls (places l.standing.levels.items) l.answered l.low l.high l.place
