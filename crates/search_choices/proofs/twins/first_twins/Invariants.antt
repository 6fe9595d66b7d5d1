use Rattle.search_choices.proofs.Common.{take}
use Rattle.search_choices.specs.Twins.{AreFirstTwins}
use Rattle.search_choices.proofs.twins.first_twins.Given as goal

-- those so far that have no twin before them
abbrev pub invariant-loop-place : goal.invariant-loop-place
invariant-loop-place l = AreFirstTwins l.calls (take l.place-index l.next) l.firsts.items
