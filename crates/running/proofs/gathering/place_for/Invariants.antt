use Rattle.running.proofs.Common.{◌≡◌, ◌++◌, take, drop, placed, Runner}
use Rattle.running.proofs.gathering.place_for.Given as goal

abbrev pub invariant-loop-place : goal.invariant-loop-place
invariant-loop-place l = (runner : Runner) → placed (l.number, runner) l.runners ≡ take l.place l.runners ++ placed (l.number, runner)
    (drop l.place l.runners)
