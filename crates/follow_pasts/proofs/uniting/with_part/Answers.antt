use Rattle.follow_pasts.proofs.Common.{◌≤◌, List, length, sym, ap, ◌∙◌, subst, AreShaped, Range}
use Rattle.follow_pasts.proofs.TogetherLemmas.{pasts_apart_at, own_shaped_at, together_with}
use Rattle.follow_pasts.proofs.uniting.with_part.Goals as goal

pub all_pairs-requires-clause-shaped : goal.all_pairs-requires-clause-shaped
all_pairs-requires-clause-shaped c =
    subst AreShaped (sym (c.deref.ensures.value ∙ ap (λ r. r.2.items) c.apart-ranges.ensures)) c.requires.shaped

pub all_pairs-requires-clause-others : goal.all_pairs-requires-clause-others
all_pairs-requires-clause-others c =
    own_shaped_at c.args.part.now c.in_ok-own.own.items c.deref-2.result.now c.deref-2.ensures.value c.in_ok-own.ensures c.requires.own

pub all_pairs-requires-clause-apart : goal.all_pairs-requires-clause-apart
all_pairs-requires-clause-apart c =
    pasts_apart_at c.args.united c.args.part.now c.in_ok-own.own.items c.deref.result.now c.deref-2.result.now
    (c.deref.ensures.value ∙ ap (λ r. r.2.items) c.apart-ranges.ensures) c.deref-2.ensures.value c.in_ok-own.ensures c.requires.apart

pub returns : goal.returns
returns c =
    let i = c.loop-range.range-index in
    together_with c.args.united c.args.part.now _ c.in_ok-own.own.items c.deref.result.now c.deref-2.result.now i c.loop-range.invariant
    (subst (λ (l : List Range). length l ≤ i) c.deref-range-items.ensures.value c.loop-range-test.false) c.in_ok-own.ensures
    (c.deref.ensures.value ∙ ap (λ r. r.2.items) c.apart-ranges.ensures) c.deref-2.ensures.value c.in_ok-pasts.ensures
