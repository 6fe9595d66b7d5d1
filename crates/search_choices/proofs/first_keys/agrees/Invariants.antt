use Rattle.search_choices.proofs.Common.{◌≡◌, ◌≤◌, ℕ, false, take, Contains}
use Rattle.search_choices.proofs.first_keys.agrees.Given as goal

-- none of those so far is within the range, unless it is marked
abbrev pub invariant-loop-key : goal.invariant-loop-key
invariant-loop-key l =
    l.over ≡ false → (key : ℕ) → Contains (take l.key-index l.keys) key → l.low ≤ key → key ≤ l.high → ⊥
