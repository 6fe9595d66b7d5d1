use Rattle.follow_cuts.proofs.Common.{◌≡◌, List, Some, [], ◌∷◌, length, refl, sym, ap, ◌∙◌, subst, arith, slice_get, slice_get_read, All-at, Contents}
use Rattle.follow_cuts.proofs.Common.{after_call, AreCut, Past}
use Rattle.follow_cuts.proofs.AloneLemmas.{alone_cut, only_one}
use Rattle.follow_cuts.proofs.MadeLemmas.{IsShaped}
use Rattle.follow_cuts.proofs.alone.past_alone.Goals as goal

pub returns : goal.returns
returns c =
    let pasts = c.args.pasts.now in
    let past = c.index-pasts-0.result in
    let calls = past.calls.items in
    let o = c.index-call.result.now in
    let next : Past = record { map = c.map.inside.pairs.items; calls = c.new.result; found = c.in_ok-from_slice.field-0 } in
    let here : slice_get pasts 0 ≡ Some past =
    slice_get_read pasts (length pasts) 0 past refl (omega (arith, c.if-pasts-ne1.false)) c.index-pasts-0.is in
    let one : pasts ≡ past ∷ [] = only_one pasts past c.if-pasts-ne1.false here in
    let only : calls ≡ o ∷ [] = only_one calls o (sym past.calls.ok.0 ∙ (sym c.len.ensures ∙ c.if-len-ne1.false))
    (slice_get_read calls (length calls) 0 o refl (omega (arith, past.calls.ok.0, c.len.ensures, c.if-len-ne1.false)) c.index-call.ensures) in
    subst (λ (l : List Past). AreCut c.args.moment 1 l (next ∷ [])) (sym one)
    (alone_cut past next o c.args.moment c.answer_before.result only (All-at IsShaped pasts 0 past c.requires here)
    (c.answer_before.ensures.answer c.if-answer_before-moment.false) c.if-answer_before-moment.false (c.may_come_next.ensures.0 c.if-not-may_come_next.false)
    (c.map.view_is ∙ (c.in_ok-apply.ensures.ok ∙ ap (λ (m : Contents). after_call m o.call o.response) c.in_ok-map.ensures))
    c.new.ensures.items (c.in_ok-from_slice.ensures.items ∙ c.deref.ensures.value))
