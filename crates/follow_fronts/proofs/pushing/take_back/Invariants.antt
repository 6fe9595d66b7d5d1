use Rattle.follow_fronts.proofs.Common.{length, places}
use Rattle.follow_fronts.proofs.TakeLemmas.{IsBackTo}
use Rattle.follow_fronts.proofs.pushing.take_back.Given as goal

-- the calls that were taken back so far, the last one first
abbrev pub invariant-loop-alloc : goal.invariant-loop-alloc
invariant-loop-alloc l = IsBackTo l.initial.front.start l.calls (places l.initial.front.levels.items) l.place l.front l.again.items

abbrev pub decreases-loop-alloc : goal.decreases-loop-alloc
decreases-loop-alloc l = length (places l.front.levels.items)
