use Rattle.follow_violations.proofs.Common.{low_key, AreAddedOf, IsSpanOf, span_of, ◌≡◌, ◌∙◌, ℕ, List, [], ◌∷◌, ◌++◌, ap, refl, subst, sym}
use Rattle.follow_violations.proofs.AnyLemmas.{added_all, added_more, added_one}
use Rattle.follow_violations.proofs.left_calls.note_spans.Goals as goal

pub loop-call-preserved : goal.loop-call-preserved
loop-call-preserved c =
    let o = c.call-item.result in
    let mid = c.loop-call.spans.items in
    let new = c.push.new.self.items in
    let is : new ≡ mid ++ span_of o ∷ [] =
    c.in_ok-push.ensures.items ∙ (ap (λ (low : ℕ). mid ++ (o.inv, low, c.high_key.result) ∷ []) c.low_key.ensures
    ∙ ap (λ (high : ℕ). mid ++ (o.inv, low_key o.call, high) ∷ []) c.high_key.ensures) in
    added_more IsSpanOf c.args.calls.now c.loop-call.call-index o c.args.spans.now.items mid new c.loop-call-test.true c.call-item.is
    c.loop-call.invariant
    (subst (λ (spans : List (ℕ × ℕ × ℕ)). AreAddedOf (IsSpanOf o) mid spans) (sym is)
    (added_one (IsSpanOf o) (span_of o) mid refl (λ z same. same)))

pub returns : goal.returns
returns c =
    added_all IsSpanOf c.args.calls.now c.loop-call.call-index c.args.spans.now.items c.loop-call.spans.items c.loop-call-test.false
    c.loop-call.invariant
