use Rattle.follow_fronts.proofs.Common.{ℕ, ◌<◌, Contains, PrecedesAt, places}
use Rattle.follow_fronts.proofs.guessing.is_preceded.Given as goal

-- the calls so far that precede it are in the front
abbrev pub invariant-loop-earlier : goal.invariant-loop-earlier
invariant-loop-earlier l =
    (m : ℕ) → m < l.earlier → PrecedesAt l.calls m l.place → Contains (places l.front.levels.items) m
