use Rattle.draw_picture.proofs.Common.{◌≡◌, ℕ, ◌<◌, slice_index_or}
use Rattle.draw_picture.proofs.lanes.lane_of.Given as goal

abbrev pub invariant-loop-place : goal.invariant-loop-place
invariant-loop-place l = (k d : ℕ) → k < l.place → slice_index_or l.lanes k d ≡ l.process → ⊥
