use Rattle.search_choices.specs.Standing.{places}
use Rattle.search_choices.proofs.IdleLemmas.{AreTried}
use Rattle.search_choices.proofs.FirstKeyLemmas.{IsLeftAside}
use Rattle.search_choices.proofs.choosing.next_of_keys.Given as goal

abbrev pub ghost-may_come : goal.ghost-may_come
ghost-may_come g a = g.start

-- all of the calls so far that may come next and are of these keys, and no others
abbrev pub invariant-loop-place : goal.invariant-loop-place
invariant-loop-place g l =
    AreTried g.start l.calls (places l.standing.levels.items) (IsLeftAside l.standing.map l.calls l.keys) l.next.items l.place
