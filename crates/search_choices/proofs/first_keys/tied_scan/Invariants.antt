use Rattle.search_choices.specs.Standing.{places}
use Rattle.search_choices.proofs.FirstKeyLemmas.{AllMissOneBelow}
use Rattle.search_choices.proofs.first_keys.tied_scan.Given as goal

-- each of those so far that is over one of the keys missed one
abbrev pub invariant-loop-place : goal.invariant-loop-place
invariant-loop-place g l =
    AllMissOneBelow l.standing.map l.calls (places l.standing.levels.items) l.answered l.keys l.place
