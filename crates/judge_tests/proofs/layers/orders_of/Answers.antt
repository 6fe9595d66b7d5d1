-- The segments so far have their orders, one each.
use Rattle.std.proofs.Common.{[], ◌∷◌, ◌++◌, take, map, sym, subst, ap, ◌∙◌}
use Rattle.std.specs.List.{AllZip}
use Rattle.std.proofs.lemmas.List.{map-append, take_more, take_all}
use Rattle.orders.specs.SegmentOrders.{IsOrderOf}
use Rattle.judge_tests.proofs.ZipLemmas.{AllZip-more}
use Rattle.judge_tests.proofs.layers.orders_of.Goals as goal

pub loop-segment-init : goal.loop-segment-init
loop-segment-init c = rw c.in_ok-orders.ensures.items tt

pub loop-segment-preserved : goal.loop-segment-preserved
loop-segment-preserved c =
    let segments = c.args.segments.now in
    let k = c.loop-segment.segment-index in
    let orders = map (λ order. order.items) c.loop-segment.orders.items in
    let found = rw c.in-Order.is at c.in_ok-order.ensures.sound in
    let more = AllZip-more IsOrderOf (take k segments) orders c.segment-item.result c.in-Order.order.items c.loop-segment.invariant found in
    let taken = ap (λ s. take k segments ++ s ∷ []) c.segment-item.is
    ∙ sym (take_more segments k c.segment-item.result c.loop-segment-test.true) in
    rw (c.in_ok-push-in-Order.ensures.items, map-append)
    (subst (λ s. AllZip IsOrderOf s (orders ++ c.in-Order.order.items ∷ [])) taken more)

pub returns : goal.returns
returns c =
    subst (λ s. AllZip IsOrderOf s (map (λ order. order.items) c.loop-segment.orders.items))
    (take_all _ _ c.loop-segment-test.false) c.loop-segment.invariant
