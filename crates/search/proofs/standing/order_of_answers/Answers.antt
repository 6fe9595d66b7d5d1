use Rattle.search.proofs.Common.{sym, subst, arith, IsByAnswer}
use Rattle.search.proofs.OpenLemmas.{IsByAnswer-nil, IsByAnswer-insert}
use Rattle.search.proofs.standing.order_of_answers.Goals as goal

pub loop-place-preserved : goal.loop-place-preserved
loop-place-preserved c =
    let calls = c.args.calls.now in
    let order = c.loop-place.order.items in
    let p = c.loop-place.place in
    let at = c.place_by_answer-at.result in
    rw c.in_ok-insert.ensures.items
    (IsByAnswer-insert calls p at order c.loop-place.invariant (rw c.deref.ensures.value at c.place_by_answer-at.ensures.before)
    (rw c.deref.ensures.value at c.place_by_answer-at.ensures.behind))

pub loop-place-init : goal.loop-place-init
loop-place-init c = subst (IsByAnswer c.args.calls.now 0) (sym c.in_ok-order.ensures.items) (IsByAnswer-nil c.args.calls.now)

pub returns : goal.returns
returns c =
    subst (λ n. IsByAnswer c.args.calls.now n c.loop-place.order.items) (omega (arith, c.loop-place-test.false, c.loop-place.auto.place-end))
    c.loop-place.invariant
