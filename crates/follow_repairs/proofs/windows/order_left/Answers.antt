use Rattle.follow_repairs.proofs.Common.{◌<◌, ◌++◌, ℕ, List, length, ap, sym, ◌∙◌, subst, All, AllPairs, map, slice_index, Operation, NonePrecedesItself}
use Rattle.follow_repairs.proofs.Common.{calls_at, IsOrder, places}
use Rattle.follow_repairs.proofs.JoinLemmas.{left_known, left_rises, left_apart, order_of_left, joined, order_known}
use Rattle.follow_repairs.proofs.windows.order_left.Goals as goal

pub copies_of-requires : goal.copies_of-requires
copies_of-requires c =
    let path = places c.args.front.now.levels.items in
    subst (All (λ n. n < length c.args.calls.now)) (sym c.deref.ensures.value)
    (left_known c.args.calls.now path c.in_ok-left.left.items c.in_ok-left.ensures)

pub search_calls-requires-clause-rising : goal.search_calls-requires-clause-rising
search_calls-requires-clause-rising c =
    let calls = c.args.calls.now in
    let path = places c.args.front.now.levels.items in
    let left = c.in_ok-left.left.items in
    let others_is = c.deref-2.ensures.value ∙ c.in_ok-others.ensures ∙ ap (calls_at calls) c.deref.ensures.value in
    subst (AllPairs (λ (a : Operation) (b : Operation). a.inv < b.inv)) (sym others_is)
    (left_rises calls path left c.in_ok-left.ensures c.requires.calls.rising)

pub search_calls-requires-clause-apart : goal.search_calls-requires-clause-apart
search_calls-requires-clause-apart c =
    let calls = c.args.calls.now in
    let path = places c.args.front.now.levels.items in
    let left = c.in_ok-left.left.items in
    let others_is = c.deref-2.ensures.value ∙ c.in_ok-others.ensures ∙ ap (calls_at calls) c.deref.ensures.value in
    subst NonePrecedesItself (sym others_is) (left_apart calls path left c.in_ok-left.ensures c.requires.calls.apart)

pub places_of-requires : goal.places_of-requires
places_of-requires c =
    let calls = c.args.calls.now in
    let s = c.requires.stands in
    let start = c.args.front.now.start in
    let path = places c.args.front.now.levels.items in
    let left = c.in_ok-left.left.items in
    let others_is = c.deref-2.ensures.value ∙ c.in_ok-others.ensures ∙ ap (calls_at calls) c.deref.ensures.value in
    let found = rw c.in-Order.is at c.in_ok-order.ensures in
    let h = order_of_left start calls path left c.deref-2.result.now c.in_ok-map.map c.in-Order.order.items (c.in_ok-map.ensures ∙ s.holds)
    others_is found in
    subst (λ (xs : List ℕ). All (λ n. n < length xs) c.deref-in-Order-2.result.now) (sym c.deref-in-Order.ensures.value)
    (subst (All (λ n. n < length left)) (sym c.deref-in-Order-2.ensures.value)
    (order_known calls path left c.in_ok-left.ensures start s.is_front c.in-Order.order.items h))

pub returns-in-Order : goal.returns-in-Order
returns-in-Order c =
    let calls = c.args.calls.now in
    let s = c.requires.stands in
    let start = c.args.front.now.start in
    let path = places c.args.front.now.levels.items in
    let left = c.in_ok-left.left.items in
    let others_is = c.deref-2.ensures.value ∙ c.in_ok-others.ensures ∙ ap (calls_at calls) c.deref.ensures.value in
    let found = rw c.in-Order.is at c.in_ok-order.ensures in
    let h = order_of_left start calls path left c.deref-2.result.now c.in_ok-map.map c.in-Order.order.items (c.in_ok-map.ensures ∙ s.holds)
    others_is found in
    let named = c.in_ok-more-in-Order.ensures ∙ ap (λ (xs : List ℕ). map (slice_index xs) c.deref-in-Order-2.result.now) c.deref-in-Order.ensures.value
    ∙ ap (map (slice_index left)) c.deref-in-Order-2.ensures.value in
    subst (λ xs. IsOrder start calls (path ++ xs)) (sym named)
    (joined calls path left c.in_ok-left.ensures start s.is_front c.in-Order.order.items h)
