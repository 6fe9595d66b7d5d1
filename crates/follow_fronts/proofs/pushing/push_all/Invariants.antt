use Rattle.follow_fronts.proofs.Common.{◌≡◌, ◌++◌, take, places, Stands}
use Rattle.follow_fronts.proofs.pushing.push_all.Given as goal

-- the calls so far are pushed
abbrev pub invariant-loop-place : goal.invariant-loop-place
invariant-loop-place l =
    Stands l.calls l.front × (l.front.start ≡ l.initial.front.start)
    × (places l.front.levels.items ≡ places l.initial.front.levels.items ++ take l.place-index l.more)
