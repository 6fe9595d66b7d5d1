use Rattle.memo.proofs.Common.{◌≡◌, ◌<◌, ℕ, get_or, value_at}
use Rattle.memo.proofs.config.agree.Given as goal

-- the values at the keys so far are the same
abbrev pub invariant-loop-pair : goal.invariant-loop-pair
invariant-loop-pair l = (k : ℕ) → (d : ℕ × ℕ) → k < l.pair-index
    → value_at l.a.pairs (get_or l.pairs k d).0 ≡ value_at l.b.pairs (get_or l.pairs k d).0
