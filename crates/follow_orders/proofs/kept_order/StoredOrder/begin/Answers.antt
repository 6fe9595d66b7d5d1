use Rattle.follow_orders.proofs.Common.{◌+◌, ◌<◌, List, length, sym, subst, arith, ◌^◌, All, Operation, StoredOrderView, places, IsKept, Front}
use Rattle.follow_orders.proofs.BeginLemmas.{stands_more, whole_more, are_calls_more}
use Rattle.follow_orders.proofs.kept_order.StoredOrder.begin.Goals as goal

pub invariant_of-self-in-Ok : goal.invariant_of-self-in-Ok
invariant_of-self-in-Ok c =
    let w = c.self.inside in
    let k = c.self.invariant in
    let op = c.args.operation in
    let calls = w.calls.items in
    let front = w.front in
    let pending = c.requires.pending in
    let last : All (λ (a : Operation). a.inv < op.inv) calls =
    subst (λ (v : StoredOrderView). All (λ (a : Operation). a.inv < op.inv) v.calls) (sym c.self.view_is) c.requires.last in
    let few : length calls + 2 < 2 ^ 32 =
    let of = w.calls.ok.0 in omega (arith, of, c.len.ensures, c.if-len-ge-CALL_LIMIT.false) in
    let taken_is = c.in_ok-push.ensures.items in
    let later : Front = record front { taken = c.push.new.self } in
    subst (λ (xs : List Operation). IsKept xs later) (sym c.in-Ok.ensures.items) (record {
      are_calls = are_calls_more calls op pending few last k.are_calls;
      stands = stands_more calls op pending front.start front.levels.items front.map front.taken.items later.taken.items front.low taken_is
          k.stands;
      whole = whole_more calls op pending front.start (places front.levels.items) k.stands.is_front k.whole;
    })
