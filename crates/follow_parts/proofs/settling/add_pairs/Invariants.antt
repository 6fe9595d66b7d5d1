use Rattle.follow_parts.proofs.Common.{◌≡◌, ℕ, take, IsRising, value_at, or_else}
use Rattle.follow_parts.proofs.settling.add_pairs.Given as goal

-- the pairs so far were added to the map
abbrev pub invariant-loop-pair : goal.invariant-loop-pair
invariant-loop-pair l = record {
  rises : IsRising l.fn.rest → IsRising l.rest;
  values : IsRising l.pairs → (key : ℕ) → value_at l.rest key ≡ or_else (value_at (take l.pair-index l.pairs) key) (value_at l.fn.rest key);
}
