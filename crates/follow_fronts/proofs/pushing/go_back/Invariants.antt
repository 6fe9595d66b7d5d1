use Rattle.follow_fronts.proofs.Common.{◌≡◌, length, take, places, Stands}
use Rattle.follow_fronts.proofs.pushing.go_back.Given as goal

-- the calls that are to be left are there
abbrev pub invariant-loop-alloc : goal.invariant-loop-alloc
invariant-loop-alloc l =
    Stands l.calls l.front × (l.front.start ≡ l.initial.front.start)
    × (take l.len (places l.front.levels.items) ≡ take l.len (places l.initial.front.levels.items))

abbrev pub decreases-loop-alloc : goal.decreases-loop-alloc
decreases-loop-alloc l = length (places l.front.levels.items)
