use Rattle.std.proofs.Common.{map, take}
use Rattle.std.specs.List.{AllZip}
use Rattle.orders.specs.SegmentOrders.{IsOrderOf}
use Rattle.judge_tests.proofs.layers.orders_of.Given as goal

abbrev pub invariant-loop-segment : goal.invariant-loop-segment
invariant-loop-segment l = AllZip IsOrderOf (take l.segment-index l.segments) (map (λ order. order.items) l.orders.items)
