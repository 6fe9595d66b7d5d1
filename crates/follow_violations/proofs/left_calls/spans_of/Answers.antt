use Rattle.follow_violations.proofs.Common.{Operation, kept_of, AreAdded, IsSpanIn, IsSpanOf, List, [], subst}
use Rattle.follow_violations.proofs.AnyLemmas.{added_all, added_more, added_same}
use Rattle.follow_violations.proofs.NameLemmas.{all_spans}
use Rattle.follow_violations.proofs.left_calls.spans_of.Goals as goal

pub loop-past-preserved : goal.loop-past-preserved
loop-past-preserved c =
    let old = c.loop-past.spans.items in
    let mid = c.note_spans.new.spans.items in
    let new = c.each_once-spans.result.items in
    let past = c.past-item.result in
    let noted : AreAdded IsSpanOf past.calls.items old mid =
    subst (λ (calls : List Operation). AreAdded IsSpanOf calls old mid) c.deref.ensures.value c.in_ok-note_spans.ensures in
    added_more (λ p. IsSpanIn (kept_of p)) c.args.pasts.now c.loop-past.past-index past [] old new c.loop-past-test.true c.past-item.is
    c.loop-past.invariant (added_same (IsSpanIn (kept_of past)) old mid new noted c.each_once-spans.ensures)

pub returns : goal.returns
returns c =
    all_spans c.args.pasts.now c.loop-past.spans.items
    (added_all (λ p. IsSpanIn (kept_of p)) c.args.pasts.now c.loop-past.past-index [] c.loop-past.spans.items c.loop-past-test.false
    c.loop-past.invariant)
