use Rattle.follow_fronts.proofs.Common.{◌≡◌, Stands}
use Rattle.follow_fronts.proofs.guessing.follow.Given as goal

abbrev pub invariant-loop-place : goal.invariant-loop-place
invariant-loop-place l = Stands l.calls l.front × (l.front.start ≡ l.initial.front.start)
