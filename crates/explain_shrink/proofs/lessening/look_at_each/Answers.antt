use Rattle.explain_shrink.proofs.Common.{List, ℕ, ◌≡◌, ◌≤◌, ◌+◌, ◌∙◌, [], ◌∷◌, ◌++◌, length, take, sym, ap, subst, arith, AllZip, take_more, IsWithout}
use Rattle.explain_shrink.proofs.Common.{IsReasonFor, IsReasonForOne, others_than}
use Rattle.explain_shrink.specs.declared.explanation.Without.{Without}
use Rattle.explain_shrink.proofs.EnoughLemmas.{others_fewer}
use Rattle.explain_shrink.proofs.lessening.look_at_each.Goals as goal

-- one pair more
AllZip-push : {A B : Type 0} (R : A → B → Type 0) (xs : List A) (ys : List B) (x : A) (y : B) → AllZip R xs ys → R x y
    → AllZip R (xs ++ x ∷ []) (ys ++ y ∷ [])
AllZip-push R [] [] x y each here = (here, tt)
AllZip-push R [] (z ∷ ys) x y each here = absurd each
AllZip-push R (z ∷ xs) [] x y each here = absurd each
AllZip-push R (z ∷ xs) (w ∷ ys) x y each here = (each.0, AllZip-push R xs ys x y each.1 here)

pub returns-in-Rest : goal.returns-in-Rest
returns-in-Rest c =
    let kept = c.args.kept.now in
    let at = c.call-item.result in
    let found = subst (λ (w : Without). IsWithout c.args.map.now c.args.calls.now c.deref.result.now c.args.budget w) c.in-Rest.is
    c.in_ok-rest.ensures in
    let places : c.deref.result.now ≡ others_than kept at.inv = c.deref.ensures.value ∙ c.in_ok-places.ensures in
    let few : length c.in-Rest.rest.items ≤ length (others_than kept at.inv) =
    subst (λ (l : List ℕ). length c.in-Rest.rest.items ≤ length l) places found.fewer in
    let less = others_fewer kept at (c.loop-call.call-index, c.loop-call-test.true, sym c.call-item.is) in
    (found.enough, omega (arith, few, less))

pub loop-call-preserved : goal.loop-call-preserved
loop-call-preserved c =
    let kept = c.args.kept.now in
    let R = IsReasonForOne c.args.map.now c.args.budget c.args.calls.now kept in
    let i = c.loop-call.call-index in
    let found = subst (λ (w : Without). IsWithout c.args.map.now c.args.calls.now c.deref.result.now c.args.budget w) c.in-Kept.is
    c.in_ok-rest.ensures in
    let reason : R c.call-item.result c.in-Kept.reason =
    subst (λ (l : List ℕ). IsReasonFor c.args.map.now c.args.budget c.args.calls.now l c.in-Kept.reason)
    (c.deref.ensures.value ∙ c.in_ok-places.ensures) found in
    let more : take (i + 1) kept ≡ take i kept ++ c.call-item.result ∷ [] =
    take_more kept i c.call-item.result c.loop-call-test.true ∙ ap (λ a. take i kept ++ a ∷ []) (sym c.call-item.is) in
    subst (AllZip R (take (i + 1) kept)) (sym c.in_ok-push-in-Kept.ensures.items)
    (subst (λ l. AllZip R l (c.loop-call.reasons.items ++ c.in-Kept.reason ∷ [])) (sym more)
    (AllZip-push R (take i kept) c.loop-call.reasons.items c.call-item.result c.in-Kept.reason c.loop-call.invariant reason))
