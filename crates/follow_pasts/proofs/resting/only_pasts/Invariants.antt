use Rattle.follow_pasts.proofs.Common.{covered, AreOnly}
use Rattle.follow_pasts.proofs.resting.only_pasts.Given as goal

-- the result is right for the pasts so far
abbrev pub invariant-loop-past : goal.invariant-loop-past
invariant-loop-past l = AreOnly (covered l.busy) l.yielded l.left.items
