use Rattle.follow_fronts.proofs.Common.{ℕ, ◌<◌, Contains, IsCompletedAt, places}
use Rattle.follow_fronts.proofs.guessing.is_whole.Given as goal

-- the completed calls so far are in the front
abbrev pub invariant-loop-place : goal.invariant-loop-place
invariant-loop-place l = (n : ℕ) → n < l.place → IsCompletedAt l.calls n → Contains (places l.front.levels.items) n
