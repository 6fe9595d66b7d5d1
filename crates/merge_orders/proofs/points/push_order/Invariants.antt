use Rattle.merge_orders.proofs.Common.{◌≡◌, ◌++◌, map, take, at_point_in}
use Rattle.merge_orders.proofs.PlacedLemmas.{latest}
use Rattle.merge_orders.proofs.points.push_order.Given as goal

abbrev pub invariant-loop-number : goal.invariant-loop-number
invariant-loop-number l = record {
  point : l.point ≡ latest l.calls l.order l.number-index;
  placed : l.placed.items ≡ l.initial.placed.items ++ map (at_point_in l.calls l.order) (take l.number-index l.order);
}
