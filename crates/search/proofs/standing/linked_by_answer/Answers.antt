use Rattle.search.proofs.Common.{◌≡◌, ◌+◌, ◌<◌, ◌≤◌, [], length, take, sym, subst, take_all, IsChain}
use Rattle.search.proofs.OpenLemmas.{IsChain-none, IsChain-next, node_within}
use Rattle.search.proofs.standing.linked_by_answer.Goals as goal

pub loop-place-init : goal.loop-place-init
loop-place-init c =
    let size = length c.args.calls.now in
    subst (λ l. (length l.after ≡ size + 1) × IsChain l size [] size) (sym c.in_ok-links.ensures) (IsChain-none size)

pub push-requires-clause-node : goal.push-requires-clause-node
push-requires-clause-node c =
    let calls = c.args.calls.now in
    let order = c.in_ok-order.order.items in
    let items = c.deref-place-items.ensures.value in
    let i = c.loop-place.place-index in
    let within : i < length order = rw items at c.loop-place-test.true in
    rw items (node_within calls order i _ (length calls) _ c.in_ok-order.ensures within c.loop-place.invariant.0)

pub loop-place-preserved : goal.loop-place-preserved
loop-place-preserved c =
    let calls = c.args.calls.now in
    let order = c.in_ok-order.order.items in
    let items = c.deref-place-items.ensures.value in
    let i = c.loop-place.place-index in
    let within : i < length order = rw items at c.loop-place-test.true in
    rw (c.push.ensures.links, items)
    (IsChain-next calls order c.loop-place.links i _ (length calls) c.in_ok-order.ensures c.push.ensures.within
    c.loop-place.invariant.0 within
    (rw items at c.loop-place.invariant.1))

pub returns-clause-chain : goal.returns-clause-chain
returns-clause-chain c =
    let size = length c.args.calls.now in
    let order = c.in_ok-order.order.items in
    let items = c.deref-place-items.ensures.value in
    let i = c.loop-place.place-index in
    let past : length order ≤ i = rw items at c.loop-place-test.false in
    let chain : IsChain c.loop-place.links size (take i order) size = rw items at c.loop-place.invariant.1 in
    (order, c.in_ok-order.ensures, subst (λ xs. IsChain c.loop-place.links size xs size) (take_all i order past) chain)
