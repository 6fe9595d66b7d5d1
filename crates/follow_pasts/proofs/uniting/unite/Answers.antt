use Rattle.follow_pasts.proofs.Common.{◌<◌, List, map, length, refl, sym, ap, ◌∙◌, subst, arith, into_iter_items, nil_from_length, All-head, AreShaped}
use Rattle.follow_pasts.proofs.Common.{kept_of, Past, covered, IsPartShaped, AreBesidePasts, Become, Part}
use Rattle.follow_pasts.proofs.UnionLemmas.{united_become}
use Rattle.follow_pasts.proofs.TogetherLemmas.{AreUniting, uniting_start, uniting_more, next_some}
use Rattle.follow_pasts.proofs.uniting.unite.Goals as goal

pub loop-part-init : goal.loop-part-init
loop-part-init c =
    let united = c.in_ok-united.united in
    let gives = c.into_iter-part-iterator.ensures.into_iter_gives in (
      (
        united,
        c.in_ok-united.ensures,
        subst (λ (l : List Part). AreUniting c.args.met.items united l united) (sym gives.0)
            (uniting_start c.args.low c.args.high c.args.rest.now c.part_at_rest.new.rest c.args.met.items united c.in_ok-united.ensures
            c.requires.parts c.requires.apart),
      ),
      omega (arith, gives.1, ap length gives.0, c.args.met.ok.0),
    )

pub with_part-requires-clause-shaped : goal.with_part-requires-clause-shaped
with_part-requires-clause-shaped c = c.loop-part.invariant.0.2.shaped

pub with_part-requires-clause-own : goal.with_part-requires-clause-own
with_part-requires-clause-own c =
    let so = c.loop-part.invariant in
    let now = subst (λ (l : List Part). AreUniting c.args.met.items c.loop-part.united l so.0.0) c.in-Some.ensures.steps.0 so.0.2 in
    All-head IsPartShaped c.in-Some.part (into_iter_items c.next.new.self) now.parts

pub with_part-requires-clause-apart : goal.with_part-requires-clause-apart
with_part-requires-clause-apart c =
    let so = c.loop-part.invariant in
    let now = subst (λ (l : List Part). AreUniting c.args.met.items c.loop-part.united l so.0.0) c.in-Some.ensures.steps.0 so.0.2 in
    All-head (λ (p : Part). AreBesidePasts p (map kept_of c.loop-part.united.pasts.items)) c.in-Some.part (into_iter_items c.next.new.self)
    now.beside

pub loop-part-preserved : goal.loop-part-preserved
loop-part-preserved c =
    let so = c.loop-part.invariant in
    let step = c.in-Some.ensures.steps in
    let now = subst (λ (l : List Part). AreUniting c.args.met.items c.loop-part.united l so.0.0) step.0 so.0.2 in
    let next = c.in_ok-united-2.united in (
      (
        so.0.0,
        so.0.1,
        uniting_more c.args.met.items c.loop-part.united c.in-Some.part (into_iter_items c.next.new.self) so.0.0 next now
            c.in_ok-united-2.ensures (next_some c.loop-part.united c.in-Some.part next now.some c.in_ok-united-2.ensures),
      ),
      omega (arith, step.1, ap length step.0, so.1),
    )

pub returns-clause-united : goal.returns-clause-united
returns-clause-united c =
    let so = c.loop-part.invariant in
    let last = c.loop-part.united in
    let rest = into_iter_items c.loop-part.part-iterator in
    let none = nil_from_length rest (so.1 ∙ c.in-None.ensures.steps.0) in
    let now = subst (λ (l : List Part). AreUniting c.args.met.items last l so.0.0) none so.0.2 in
    subst (λ (l : List Past). Become c.args.low c.args.high c.args.rest.now c.part_at_rest.new.rest c.args.met.items c.in_ok-ranges.ranges.items (map kept_of l))
    (sym (ap (λ r. r.2.items) c.apart-ranges.ensures))
    (united_become c.args.low c.args.high c.args.rest.now c.part_at_rest.new.rest c.args.met.items so.0.0 last so.0.1 (now.all last refl)
    c.in_ok-ranges.ranges.items (λ key. c.in_ok-ranges.ensures key ∙ ap (λ r. covered r.0.items key) c.apart-ranges.ensures))

pub returns-clause-shaped : goal.returns-clause-shaped
returns-clause-shaped c = subst AreShaped (sym (ap (λ r. r.2.items) c.apart-ranges.ensures)) c.loop-part.invariant.0.2.shaped

pub returns-clause-some : goal.returns-clause-some
returns-clause-some c =
    subst (λ (l : List Past). 0 < length l) (sym (ap (λ r. r.2.items) c.apart-ranges.ensures)) c.loop-part.invariant.0.2.some
