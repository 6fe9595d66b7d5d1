use Rattle.follow_cuts.proofs.Common.{◌≡◌, ℕ, ◌<◌, Some, slice_get, Contains, Found}
use Rattle.follow_cuts.proofs.position.has_all.Given as goal

-- all of those so far
abbrev pub invariant-loop-one : goal.invariant-loop-one
invariant-loop-one l = (k : ℕ) (f : Found) → k < l.one-index → slice_get l.found k ≡ Some f → Contains l.others f
