use Rattle.follow_violations.proofs.Common.{value_at, ◌≡◌, ℕ, ◌≤◌, length, drop}
use Rattle.follow_violations.proofs.reported.map_of_each.Given as goal

-- the map holds the pairs from here on
abbrev pub invariant-loop-at : goal.invariant-loop-at
invariant-loop-at l = record {
  within : l.at ≤ length l.pairs;
  holds : (key : ℕ) → value_at l.map key ≡ value_at (drop l.at l.pairs) key;
}

abbrev pub decreases-loop-at : goal.decreases-loop-at
decreases-loop-at l = l.at
