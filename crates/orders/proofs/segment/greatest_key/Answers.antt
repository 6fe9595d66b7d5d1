use Rattle.orders.proofs.Common.{ap, high_key, greatest_more}
use Rattle.orders.proofs.segment.greatest_key.Goals as goal

pub loop-operation-preserved : goal.loop-operation-preserved
loop-operation-preserved c =
    let more = greatest_more (λ a. high_key a.call) c.args.calls.now c.loop-operation.operation-index c.operation-item.result
    c.loop-operation-test.true in
    let here = ap (λ a. high_key a.call) c.operation-item.is in
    cc
