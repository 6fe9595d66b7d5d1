use Rattle.merge_orders.proofs.Common.{map, sym, ap, ◌∙◌, subst, concat, IsMergedOrder, operations, IsOrder, at_point}
use Rattle.std.proofs.Common.{rules}
use Rattle.std.proofs.lemmas.List.Sorted.{answers_always}
use Rattle.std.proofs.lemmas.Result.{IfOk-weaker}
use Rattle.merge_orders.proofs.MergeLemmas.{IsOrder-from_merged}
use Rattle.events.proofs.TimeLemmas.{NonePrecedesItself-operations}
use Rattle.merge_orders.proofs.OnceLemmas.{NameCallsOnce-from_segments}
use Rattle.merge_orders.proofs.SortedLemmas.{IsMergedOrder-sorted}
use Rattle.merge_orders.proofs.merged.merge.Goals as goal
use Rattle.merge_orders.proofs.merged.merge.Goals.{After-drop-calls-2}

pub calls_at_points-requires : goal.calls_at_points-requires
calls_at_points-requires c = rw c.calls.ensures.calls (NameCallsOnce-from_segments c.args.history.now.start c.args.history.now.events _
    c.calls.ensures.history.events c.requires)

-- the sorted calls are in the merged order
merged : (c : After-drop-calls-2)
    → IsMergedOrder (operations c.args.history.now.events) (map (λ v. v.items) c.args.orders.now) (map (λ a. a.number) c.deref.result.now)
merged c =
    let events = c.args.history.now.events in
    let orders = map (λ v. v.items) c.args.orders.now in
    let placed = c.in_ok-calls.ensures ∙ ap (λ calls. map (at_point calls orders) (concat orders)) c.calls.ensures.calls in
    rw c.deref.ensures.value
    (IsMergedOrder-sorted (operations events) orders c.in_ok-calls.calls.items _
    (NameCallsOnce-from_segments c.args.history.now.start events orders c.calls.ensures.history.events c.requires) placed
    c.sort_by_key.ensures.permutation
    (c.in_ok-sort_by_key.ensures.sorted (λ a. a.point) (answers_always _ _ _ (λ f a r g h. search rules)))
    (c.sort_by_key.ensures.stable (λ a. a.point) (answers_always _ _ _ (λ f a r g h. search rules))))

pub returns-clause-merged : goal.returns-clause-merged
returns-clause-merged c =
    let orders = map (λ v. v.items) c.args.orders.now in
    IfOk-weaker _ _ _
    (λ v is. subst (IsMergedOrder (operations c.args.history.now.events) orders) (sym is)
    (merged (goal.at.returns-clause-merged c).After-drop-calls-2)) c.numbers_of.ensures

pub returns-clause-order : goal.returns-clause-order
returns-clause-order c =
    let events = c.args.history.now.events in
    IfOk-weaker _ _ _ (λ v is. subst (IsOrder c.args.history.now.start (operations events)) (sym is)
    (IsOrder-from_merged c.args.history.now.start (operations events) c.requires.0 _ _ (NonePrecedesItself-operations events)
    c.requires.1 c.requires.2
    (merged (goal.at.returns-clause-order c).After-drop-calls-2))) c.numbers_of.ensures
