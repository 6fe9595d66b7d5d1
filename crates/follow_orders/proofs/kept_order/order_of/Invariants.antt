use Rattle.follow_orders.proofs.Common.{◌≡◌, take, places}
use Rattle.follow_orders.proofs.kept_order.order_of.Given as goal

-- the places of the levels so far
abbrev pub invariant-loop-level : goal.invariant-loop-level
invariant-loop-level l = l.order.items ≡ places (take l.level-index l.levels)
