use Rattle.follow_fronts.proofs.Common.{length, places}
use Rattle.follow_fronts.proofs.MendLemmas.{IsRoom}
use Rattle.follow_fronts.proofs.mending.put_back.Given as goal

-- the calls that were taken back so far, the last one first, may come after the call
abbrev pub invariant-loop-work : goal.invariant-loop-work
invariant-loop-work l =
    IsRoom l.initial.front.start l.calls (places l.initial.front.levels.items) l.place l.front l.back.items

abbrev pub decreases-loop-work : goal.decreases-loop-work
decreases-loop-work l = length (places l.front.levels.items)
