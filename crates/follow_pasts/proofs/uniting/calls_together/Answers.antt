use Rattle.follow_pasts.proofs.Common.{◌≡◌, ◌+◌, List, Some, length, refl, sym, ap, ◌∙◌, subst, slice_get, insert, slice_get_read, Contains-at}
use Rattle.follow_pasts.proofs.Common.{Operation, IsPlaceFor}
use Rattle.follow_pasts.proofs.MergeLemmas.{AreMerging, merging_more, merging_all}
use Rattle.follow_pasts.proofs.uniting.calls_together.Goals as goal

pub loop-other-preserved : goal.loop-other-preserved
loop-other-preserved c =
    let calls = c.args.calls.now in
    let others = c.args.others.now in
    let all = c.loop-other.all.items in
    let i = c.loop-other.other-index in
    let o = c.other-item.result in
    let place = c.place_for-place.result in
    let here : slice_get others i ≡ Some o = slice_get_read others (length others) i o refl c.loop-other-test.true c.other-item.is in
    subst (λ (l : List Operation). AreMerging calls others l (i + 1))
    (sym (c.in_ok-insert.ensures.items ∙ ap (λ (p : Operation). insert all place p) c.in_ok-copy-2.ensures))
    (merging_more calls others all i place o c.requires.others c.requires.apart c.loop-other-test.true c.other-item.is
    (Contains-at others i o here) here
    (subst (λ (l : List Operation). IsPlaceFor l o.inv place) c.deref.ensures.value c.place_for-place.ensures) c.loop-other.invariant)

pub returns-clause-each : goal.returns-clause-each
returns-clause-each c =
    merging_all c.args.calls.now c.args.others.now c.loop-other.all.items c.loop-other.other-index c.loop-other-test.false c.loop-other.invariant
