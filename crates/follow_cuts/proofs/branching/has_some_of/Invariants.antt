use Rattle.follow_cuts.proofs.Common.{◌≡◌, ℕ, ◌<◌, Some, true, slice_get, concerns_key}
use Rattle.follow_cuts.proofs.branching.has_some_of.Given as goal

-- the call has none of the keys so far
abbrev pub invariant-loop-key : goal.invariant-loop-key
invariant-loop-key l = (n key : ℕ) → n < l.key-index → slice_get l.keys n ≡ Some key → concerns_key l.call.call key ≡ true → ⊥
