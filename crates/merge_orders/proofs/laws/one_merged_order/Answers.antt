use Rattle.merge_orders.proofs.Common.{operations, inv_rises}
use Rattle.merge_orders.proofs.MergeLemmas.{known-orders}
use Rattle.merge_orders.proofs.UniqueMergeLemmas.{merged_unique}
use Rattle.merge_orders.proofs.laws.one_merged_order.Goals as goal

pub returns : goal.returns
returns c history orders a b is_history are a_is b_is =
    let calls = operations history.events in
    merged_unique calls orders a b (inv_rises history.events) (known-orders history.start calls are.0 orders are.1 are.2) a_is b_is
