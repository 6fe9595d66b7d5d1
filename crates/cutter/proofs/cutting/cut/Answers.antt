use Rattle.cutter.proofs.Common.{arith, All, operations, IsLinearizable, AreSegments, keys_in_order-operations}
use Rattle.std.proofs.lemmas.Result.{IfOk-weaker}
use Rattle.orders.specs.SegmentOrders.{HasNoOrder}
use Rattle.events.proofs.OperationLemmas.{length-operations_le}
use Rattle.orders.proofs.LocalityLemmas.{not_linearizable-segment}
use Rattle.cutter.proofs.cutting.cut.Goals as goal

pub ranges_by_low_key-requires-clause-few : goal.ranges_by_low_key-requires-clause-few
ranges_by_low_key-requires-clause-few c = rw c.calls.ensures.calls (let few = length-operations_le c.args.history.now.events
    c.calls.ensures.history.events
    in omega arith)

pub ranges_by_low_key-requires-clause-in_order : goal.ranges_by_low_key-requires-clause-in_order
ranges_by_low_key-requires-clause-in_order c =
    rw c.calls.ensures.calls (keys_in_order-operations c.args.history.now.events c.calls.ensures.history.events)

pub returns-clause-refutes : goal.returns-clause-refutes
returns-clause-refutes c =
    let start = c.args.history.now.start in
    let calls = operations c.args.history.now.events in
    IfOk-weaker c.segments_of.result (λ v. AreSegments start calls v.items)
    (λ v. All (λ s. HasNoOrder s → IsLinearizable start calls → ⊥) v.items)
    (λ v are. not_linearizable-segment start calls v.items are) c.segments_of.ensures
