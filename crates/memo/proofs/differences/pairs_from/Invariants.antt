use Rattle.memo.proofs.Common.{◌≡◌, ◌≤◌, length, drop, is_none, IsRising, value_at, put_all}
use Rattle.std.proofs.Common.{filter}
use Rattle.memo.proofs.differences.pairs_from.Given as goal

-- the pairs from the place on are put
abbrev pub invariant-loop-at : goal.invariant-loop-at
invariant-loop-at l = record {
  within : l.at ≤ length l.put;
  rising : IsRising l.pairs.items;
  is : l.pairs.items ≡ put_all (drop l.at l.put) (filter (λ pair. is_none (value_at l.gone pair.0)) l.start);
}

abbrev pub decreases-loop-at : goal.decreases-loop-at
decreases-loop-at l = l.at
