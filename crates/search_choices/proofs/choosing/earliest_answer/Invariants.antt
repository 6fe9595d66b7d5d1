use Rattle.search_choices.specs.Standing.{places}
use Rattle.search_choices.proofs.EarliestLemmas.{IsEarliestBelow}
use Rattle.search_choices.proofs.choosing.earliest_answer.Given as goal

-- the result is right for the calls so far
abbrev pub invariant-loop-place : goal.invariant-loop-place
invariant-loop-place g l = IsEarliestBelow l.calls (places l.standing.levels.items) l.place l.earliest
