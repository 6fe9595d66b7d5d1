use Rattle.events.proofs.Common.{sym, append_assoc, append-nil, drop_all}
use Rattle.events.proofs.OperationLemmas.{operations_from-invocation, operations_from-response}
use Rattle.events.proofs.operations.operations_of.Goals.{in-Invoke+in_ok-response+in_ok-push, in_default}
use Rattle.events.proofs.operations.operations_of.Goals as goal

pub loop-inv-preserved : goal.loop-inv-preserved
loop-inv-preserved c =
    let events = c.args.events.now in
    let i = c.loop-inv.inv in
    let here = c.index-events-inv.is in
    elim c.match-event.branch [
      | in-Invoke+in_ok-response+in_ok-push w ↦
          let next =
          operations_from-invocation events i w.in-Invoke.process w.in-Invoke.call c.loop-inv-test.true (rw (← w.in-Invoke.is) here) in
          rw (w.calls-is, w.in_ok-push.ensures.items, w.in_ok-response.ensures, append_assoc, ← next) c.loop-inv.invariant
      | in_default w ↦
          let next =
          operations_from-response events i c.index-events-inv.result c.loop-inv-test.true here w.in_default.not-Invoke in
          rw (w.calls-is, ← next) c.loop-inv.invariant
    ]

pub returns : goal.returns
returns c =
    sym (rw (drop_all c.loop-inv.inv c.args.events.now c.loop-inv-test.false, append-nil) at c.loop-inv.invariant)
