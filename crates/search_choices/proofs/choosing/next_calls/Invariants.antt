use Rattle.search_choices.proofs.Common.{IsPassedOver, places}
use Rattle.search_choices.proofs.IdleLemmas.{AreTried}
use Rattle.search_choices.proofs.choosing.next_calls.Given as goal

abbrev pub ghost-are_idle : goal.ghost-are_idle
ghost-are_idle g a = g.start

abbrev pub ghost-may_come : goal.ghost-may_come
ghost-may_come g a = g.start

-- all of the calls so far that may come next and are not passed over, and no others
abbrev pub invariant-loop-place : goal.invariant-loop-place
invariant-loop-place g l = AreTried g.start l.calls (places l.standing.levels.items) (IsPassedOver l.idle l.standing.map l.calls) l.next.items l.place
