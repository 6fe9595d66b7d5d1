use Rattle.follow_cuts.proofs.MadeLemmas.{AreMadeBelow}
use Rattle.follow_cuts.proofs.cut.all_made.Given as goal

-- the result is right for the positions so far
abbrev pub invariant-loop-position : goal.invariant-loop-position
invariant-loop-position l = AreMadeBelow l.pasts l.positions l.position-index l.made.items
