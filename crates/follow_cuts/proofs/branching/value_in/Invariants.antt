use Rattle.follow_cuts.proofs.Common.{◌≡◌, drop, value_at}
use Rattle.follow_cuts.proofs.branching.value_in.Given as goal

-- the pairs so far have other keys
abbrev pub invariant-loop-other : goal.invariant-loop-other
invariant-loop-other l = value_at (drop l.other-index l.pairs) l.key ≡ value_at l.pairs l.key
