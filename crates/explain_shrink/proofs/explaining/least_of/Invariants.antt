use Rattle.explain_shrink.proofs.Common.{length, AreEnough}
use Rattle.explain_shrink.proofs.explaining.least_of.Given as goal

-- the calls kept so far are enough
abbrev pub invariant-loop-kept : goal.invariant-loop-kept
invariant-loop-kept l = AreEnough l.map l.calls l.kept.items

-- each turn leaves fewer
abbrev pub decreases-loop-kept : goal.decreases-loop-kept
decreases-loop-kept l = length l.kept.items
