use Rattle.merge_orders.proofs.Common.{◌≡◌, map, take, concat, at_point}
use Rattle.merge_orders.proofs.points.calls_at_points.Given as goal

abbrev pub invariant-loop-order : goal.invariant-loop-order
invariant-loop-order l = l.placed.items ≡ map (at_point l.calls (map (λ v. v.items) l.orders))
    (concat (take l.order-index (map (λ v. v.items) l.orders)))
