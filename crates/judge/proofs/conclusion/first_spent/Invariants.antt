use Rattle.judge.proofs.Common.{◌≡◌, ◌<◌, ℕ, Some, slice_get, Spent}
use Rattle.judge.proofs.conclusion.first_spent.Given as goal

-- none so far is so
abbrev pub invariant-loop-place : goal.invariant-loop-place
invariant-loop-place l = (n : ℕ) → n < l.place → slice_get l.answers n ≡ Some Spent → ⊥
