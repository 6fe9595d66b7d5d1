use Rattle.follow_fronts.proofs.Common.{◌≡◌, ◌-◌, ◌++◌, length, take, reverse, places, Stands}
use Rattle.follow_fronts.proofs.pushing.push_reversed.Given as goal

-- the last calls so far are pushed
abbrev pub invariant-loop-depth : goal.invariant-loop-depth
invariant-loop-depth l =
    Stands l.calls l.front × (l.front.start ≡ l.initial.front.start)
    × (places l.front.levels.items ≡ places l.initial.front.levels.items ++ take (length l.back - l.depth) (reverse l.back))
