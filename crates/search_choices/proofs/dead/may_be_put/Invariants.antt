use Rattle.search_choices.specs.Standing.{places}
use Rattle.search_choices.proofs.DeadLemmas.{IsUnputBelow}
use Rattle.search_choices.proofs.dead.may_be_put.Given as goal

-- none of those so far puts the value there
abbrev pub invariant-loop-place : goal.invariant-loop-place
invariant-loop-place g l = IsUnputBelow l.calls (places l.standing.levels.items) l.last l.key l.value l.place
