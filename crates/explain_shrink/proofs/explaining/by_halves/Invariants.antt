use Rattle.explain_shrink.specs.Explained.{AreEnough}
use Rattle.explain_shrink.proofs.explaining.by_halves.Given as goal

-- the calls kept so far are enough
abbrev pub invariant-loop-size : goal.invariant-loop-size
invariant-loop-size l = AreEnough l.map l.calls l.kept.items

-- fewer go at a time
abbrev pub decreases-loop-size : goal.decreases-loop-size
decreases-loop-size l = l.size
