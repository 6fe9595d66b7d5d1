use Rattle.search_choices.proofs.Common.{ℕ, take, Contains, IsCallOf}
use Rattle.search_choices.proofs.choosing.is_of_one.Given as goal

-- the call is of none of the keys so far
abbrev pub invariant-loop-key : goal.invariant-loop-key
invariant-loop-key l = (key : ℕ) → Contains (take l.key-index l.keys) key → IsCallOf key l.call → ⊥
