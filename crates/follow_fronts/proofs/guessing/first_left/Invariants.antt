use Rattle.follow_fronts.specs.Standing.{places, HasBelow}
use Rattle.follow_fronts.proofs.guessing.first_left.Given as goal

-- of the calls so far, the completed ones are in the front
abbrev pub invariant-loop-place : goal.invariant-loop-place
invariant-loop-place l = HasBelow l.calls (places l.front.levels.items) l.place
