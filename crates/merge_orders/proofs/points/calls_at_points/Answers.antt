use Rattle.merge_orders.proofs.Common.{◌≡◌, ◌<◌, map, length, Some, refl, sym, ap, ◌∙◌, ◌≢◌, slice_get, All, AllPairs, slice_get_read}
use Rattle.std.specs.Prelude.{option_map}
use Rattle.std.proofs.lemmas.Option.{slice_get-map}
use Rattle.events.proofs.Lists.{All-at}
use Rattle.merge_orders.proofs.PlacedLemmas.{at_point-more}
use Rattle.merge_orders.proofs.points.calls_at_points.Goals as goal
use Rattle.merge_orders.proofs.points.calls_at_points.Goals.{After-deref}

-- the loop's order is one of the orders
here : (c : After-deref) → slice_get (map (λ v. v.items) c.args.orders.now) c.loop-order.order-index ≡ Some c.deref.result.now
here c =
    let orders = c.args.orders.now in
    let i = c.loop-order.order-index in
    let read = slice_get_read orders (length orders) i c.order-item.result refl c.loop-order-test.true c.order-item.is in
    slice_get-map (λ v. v.items) orders i ∙ (ap (option_map (λ v. v.items)) read ∙ ap Some (sym c.deref.ensures.value))

pub push_order-requires-clause-known : goal.push_order-requires-clause-known
push_order-requires-clause-known c =
    All-at (All (λ n. n < length c.args.calls.now)) _ _ _ c.requires.known (here (goal.at.push_order-requires-clause-known c).After-deref)

pub push_order-requires-clause-distinct : goal.push_order-requires-clause-distinct
push_order-requires-clause-distinct c = All-at (AllPairs (λ m n. m ≢ n)) _ _ _ c.requires.distinct (here c)

pub loop-order-preserved : goal.loop-order-preserved
loop-order-preserved c =
    let more =
    at_point-more c.args.calls.now (map (λ v. v.items) c.args.orders.now) c.loop-order.order-index c.deref.result.now c.requires.disjoint
    (here (goal.at.loop-order-preserved c).After-deref) in
    cc (c.in_ok-push_order.ensures)
