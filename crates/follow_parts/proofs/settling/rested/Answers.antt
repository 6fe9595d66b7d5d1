use Rattle.follow_parts.proofs.Common.{◌≡◌, [], ◌∷◌, Some, length, refl, sym, ap, ◌∙◌, arith, slice_get, slice_get_read, nil_from_length, subst}
use Rattle.follow_parts.proofs.Common.{Contents, Operation, IsLegalCall}
use Rattle.orders.specs.Orders.{after_call}
use Rattle.std.proofs.lemmas.Bool.{eqb-true}
use Rattle.follow_parts.proofs.RestedLemmas.{all_rested, only_one}
use Rattle.follow_parts.proofs.settling.rested.Goals as goal

pub returns : goal.returns
returns c =
    let part = c.args.part.now in
    let calls = c.calls-calls.result.now in
    let o = c.index-calls-0.result in
    let here : slice_get calls 0 ≡ Some o =
    slice_get_read calls (length calls) 0 o refl (omega (arith, c.if-calls-ne1.false)) c.index-calls-0.is in
    let only : part.first.calls ≡ o ∷ [] = sym c.calls-calls.ensures.calls ∙ only_one calls o c.if-calls-ne1.false here in
    let none = eqb-true part.found.len 0 (sym c.is_empty.ensures ∙ c.if-not-is_empty.false) in
    let alone = eqb-true part.others.len 0 (sym c.is_empty-else-not-is_empty.ensures ∙ c.if-not-is_empty-2.false) in
    all_rested part o c.in_ok-pairs.pairs.items c.args.moment only (nil_from_length part.found.items (omega (arith, none, part.found.ok.0)))
    (nil_from_length part.others.items (omega (arith, alone, part.others.ok.0)))
    (sym c.is_ended.ensures ∙ c.if-not-is_ended.false) (legal_at c.start-start.result.now part.first.start o c.start-start.ensures
    (c.may_come_next.ensures.0 c.if-not-may_come_next.false))
    (c.in_ok-pairs.ensures.items ∙ (c.pairs.ensures.pairs ∙ (c.in_ok-apply.ensures.ok
    ∙ ap (λ (m : Contents). after_call m o.call o.response) (c.in_ok-map.ensures ∙ c.start-start.ensures))))
    c.requires
  where
    legal_at : (m start : Contents) (o : Operation) → m ≡ start → IsLegalCall m o.call o.response → IsLegalCall start o.call o.response
    legal_at m start o same legal = subst (λ (n : Contents). IsLegalCall n o.call o.response) same legal
