use Rattle.follow_pasts.proofs.Common.{◌≡◌, ◌∙◌, ◌++◌, ◌∷◌, [], List, append-nil, sym, ap, arith, into_iter_items, nil_from_length, Past}
use Rattle.std.proofs.Common.{append_assoc}
use Rattle.follow_pasts.proofs.pasts.add_pasts.Goals as goal

pub loop-other-init : goal.loop-other-init
loop-other-init c = ap (λ (l : List Past). c.args.pasts.now.items ++ l) c.into_iter-other-iterator.ensures.into_iter_gives.0

pub loop-other-preserved : goal.loop-other-preserved
loop-other-preserved c =
    let rest = into_iter_items c.next.new.self in
    ap (λ (l : List Past). l ++ rest) c.in_ok-push.ensures.items
    ∙ (append_assoc c.loop-other.pasts.items (c.in-Some.other ∷ []) rest
    ∙ (ap (λ (l : List Past). c.loop-other.pasts.items ++ l) (sym c.in-Some.ensures.steps.0) ∙ c.loop-other.invariant))

pub returns : goal.returns
returns c =
    let rest = into_iter_items c.loop-other.other-iterator in
    let none : rest ≡ [] = nil_from_length rest (omega (arith, c.in-None.ensures.steps.0, c.loop-other.other-iterator.rest.ok.0)) in
    sym (append-nil c.loop-other.pasts.items)
    ∙ (ap (λ (l : List Past). c.loop-other.pasts.items ++ l) (sym none) ∙ c.loop-other.invariant)
