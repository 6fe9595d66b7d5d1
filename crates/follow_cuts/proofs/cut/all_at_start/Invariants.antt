use Rattle.follow_cuts.proofs.MadeLemmas.{AreStarts}
use Rattle.follow_cuts.proofs.cut.all_at_start.Given as goal

-- at the pasts so far
abbrev pub invariant-loop-base : goal.invariant-loop-base
invariant-loop-base l = AreStarts l.pasts l.base l.positions.items
