use Rattle.follow_orders.proofs.Common.{◌≡◌, ◌++◌, map, take, drop, moved}
use Rattle.follow_orders.proofs.moving.move_up.Given as goal

-- the calls so far have moved
abbrev pub invariant-loop-at : goal.invariant-loop-at
invariant-loop-at l = l.levels ≡ map (moved l.place) (take l.at l.fn.levels) ++ drop l.at l.fn.levels
