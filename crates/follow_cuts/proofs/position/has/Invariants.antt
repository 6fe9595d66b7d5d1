use Rattle.follow_cuts.proofs.Common.{◌≡◌, ℕ, ◌<◌, Some, slice_get, Found}
use Rattle.follow_cuts.proofs.position.has.Given as goal

-- none of those so far
abbrev pub invariant-loop-other : goal.invariant-loop-other
invariant-loop-other l = (k : ℕ) (f : Found) → k < l.other-index → slice_get l.found k ≡ Some f → f ≡ l.one → ⊥
