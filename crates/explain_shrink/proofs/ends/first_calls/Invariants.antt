use Rattle.explain_shrink.proofs.Common.{◌≤◌, ◌-◌, length, AreEnough}
use Rattle.explain_shrink.proofs.ends.first_calls.Given as goal

-- the calls kept so far are enough, and the halving is among the calls
abbrev pub invariant-loop-low : goal.invariant-loop-low
invariant-loop-low l = record { enough : AreEnough l.map l.calls l.kept.items; within : l.high ≤ length l.calls }

-- each turn halves what is between
abbrev pub decreases-loop-low : goal.decreases-loop-low
decreases-loop-low l = l.high - l.low
