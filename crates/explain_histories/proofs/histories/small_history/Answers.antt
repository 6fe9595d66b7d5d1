use Rattle.std.proofs.lemmas.Result.{IfOk-weaker}
use Rattle.explain_histories.proofs.OrderLemmas.{same_orders}
use Rattle.explain_histories.proofs.histories.small_history.Goals as goal

pub returns-in-Some-clause-orders : goal.returns-in-Some-clause-orders
returns-in-Some-clause-orders c =
    IfOk-weaker c.history_of.result _ _
    (λ found h. same_orders c.places_do_not_matter.ensures c.args.start.now c.args.calls.now found h)
    (c.history_of.ensures c.args.calls.now (rw c.in-Some.is at c.in_ok-events.ensures))
