use Rattle.follow_violations.proofs.Common.{kept_of, IsKeyLoss, ◌≡◌, map, take, All}
use Rattle.follow_violations.proofs.lost_keys.losses_of.Given as goal

-- what is said of the keys so far
abbrev pub invariant-loop-key : goal.invariant-loop-key
invariant-loop-key l = record {
  keys : map (λ loss. loss.key) l.losses.items ≡ take l.key-index l.keys;
  each : All (IsKeyLoss (map kept_of l.pasts) l.puts) l.losses.items;
}
