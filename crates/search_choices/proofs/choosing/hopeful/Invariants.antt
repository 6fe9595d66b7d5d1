use Rattle.search_choices.proofs.Common.{take, places, IsReduced}
use Rattle.search_choices.proofs.choosing.hopeful.Given as goal

abbrev pub ghost-is_futile : goal.ghost-is_futile
ghost-is_futile g a = g.start

-- the result has those so far that are not seen to be futile
abbrev pub invariant-loop-place : goal.invariant-loop-place
invariant-loop-place g l =
    IsReduced g.start l.calls (places l.standing.levels.items) (take l.place-index l.next) l.rest.items
