use Rattle.follow_violations.proofs.Common.{Contains-nil, IsSpanAt, [], inr, ⊎_elim}
use Rattle.follow_violations.proofs.AnyLemmas.{added_all, added_at}
use Rattle.follow_violations.proofs.left_calls.invoked_at.Goals as goal

pub loop-span-preserved : goal.loop-span-preserved
loop-span-preserved c =
    added_at (IsSpanAt c.args.key) c.args.spans.now c.loop-span.span-index _ [] c.loop-span.invoked.items c.note_event.new.invoked.items
    c.loop-span-test.true c.loop-span.invariant c.in_ok-note_event.ensures

pub returns-clause-same : goal.returns-clause-same
returns-clause-same c =
    let all = added_all (IsSpanAt c.args.key) c.args.spans.now c.loop-span.span-index [] c.loop-span.invoked.items c.loop-span-test.false
    c.loop-span.invariant in
    λ inv. (
      λ inv_in. ⊎_elim (λ none. absurd (Contains-nil inv none)) (λ any. any) ((all inv).0 ((c.in_order.ensures.same inv).0 inv_in)),
      λ any. (c.in_order.ensures.same inv).1 ((all inv).1 (inr any)),
    )
