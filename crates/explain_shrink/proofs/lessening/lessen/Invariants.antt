use Rattle.explain_shrink.specs.Explained.{AreEnough}
use Rattle.explain_shrink.proofs.lessening.lessen.Given as goal

-- the calls kept so far are enough
abbrev pub invariant-loop-at : goal.invariant-loop-at
invariant-loop-at l = AreEnough l.map l.calls l.kept.items

-- each turn is at calls before
abbrev pub decreases-loop-at : goal.decreases-loop-at
decreases-loop-at l = l.at
